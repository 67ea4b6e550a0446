use Rattle.std.proofs.Common.{inr, refl, rules, subst, sym}
use Rattle.std.proofs.KnownBytes.{Consumes-trans}
use Rattle.std.specs.Io.KnownBytes.{Consumes}
use Rattle.gate_hook.proofs.Asking.{asks-whole}
use Rattle.gate_hook.proofs.Losing.{kept-all, kept-behind}
use Rattle.gate_hook.proofs.HeadRead.{read-on}
use Rattle.gate_hook.proofs.Needing.{takes-behind, takes-none}
use Rattle.gate_hook.specs.Receiving.{HasKept, HasTaken}
use Rattle.gate_hook.proofs.requests.read_wish.Goals as goal

pub returns-in-Ok-None-clause-asked : goal.returns-in-Ok-None-clause-asked
returns-in-Ok-None-clause-asked g c =
    let none = rw c.in-Ok-None.field-0-is at c.in-Ok-None.ensures in (
      (_, (_, none.1.0, none.0, none.1.1, refl), inr (none.1.2, refl)),
      (_, none.0, takes-none _ _ none.1.2 none.2),
    )

pub returns-in-Ok-None-clause-consumed : goal.returns-in-Ok-None-clause-consumed
returns-in-Ok-None-clause-consumed g c =
    let none = rw c.in-Ok-None.field-0-is at c.in-Ok-None.ensures in none.0

pub returns-in-Err-read_body-clause-asked : goal.returns-in-Err-read_body-clause-asked
returns-in-Err-read_body-clause-asked g c =
    let found = rw c.in-Ok-Some.field-0-is at c.in-Ok-Some.ensures in
    let failed = rw c.needed.ensures at c.in-Err-read_body.ensures in
    (failed.0, (_, Consumes-trans _ _ _ _ _ found.0 failed.1.2, takes-behind _ _ _ found.1 found.2 found.3 failed.1.4))

pub returns-in-Err-clause-asked : goal.returns-in-Err-clause-asked
returns-in-Err-clause-asked g c = c.in-Err.ensures.0

pub returns-in-Err-clause-consumed : goal.returns-in-Err-clause-consumed
returns-in-Err-clause-consumed g c = c.in-Err.ensures.1

pub returns-in-Err-read_body-clause-consumed : goal.returns-in-Err-read_body-clause-consumed
returns-in-Err-read_body-clause-consumed g c =
    let found = rw c.in-Ok-Some.field-0-is at c.in-Ok-Some.ensures in
    let failed = c.in-Err-read_body.ensures.1 in
    kept-behind _ _ _ _ _ failed.0 failed.1 failed.3 found.0 failed.2 failed.5

pub returns-clause-asked : goal.returns-clause-asked
returns-clause-asked g c =
    let found = rw c.in-Ok-Some.field-0-is at c.in-Ok-Some.ensures in
    let read = rw c.needed.ensures at c.in-Ok.ensures in (
      asks-whole _ _ _ _ c.in-Ok-Some.found c.read_head.new.bytes.items c.read_body.new.bytes.items _ found
          read (rw c.deref.ensures.value at c.in_ok-wish_in.ensures),
      (_, Consumes-trans _ _ _ _ _ found.0 read.1, takes-behind _ _ _ found.1 found.2 found.3 read.4),
    )

pub returns-clause-consumed : goal.returns-clause-consumed
returns-clause-consumed g c =
    let found = rw c.in-Ok-Some.field-0-is at c.in-Ok-Some.ensures in
    let read = rw c.needed.ensures at c.in-Ok.ensures in
    subst (Consumes (g.R.Read.remaining c.args.reader.now) (g.R.Read.remaining c.read_body.new.reader)) (sym read.2) (Consumes-trans _ _ _ _ _ found.0 read.1)

pub returns-in_err-wish_in-clause-asked : goal.returns-in_err-wish_in-clause-asked
returns-in_err-wish_in-clause-asked g c =
    let found = rw c.in-Ok-Some.field-0-is at c.in-Ok-Some.ensures in
    let read = rw c.needed.ensures at c.in-Ok.ensures in
    let taken : HasTaken c.args.routes.now (g.R.Read.remaining c.args.reader.now) (g.R.Read.remaining c.read_body.new.reader) =
    (_, Consumes-trans _ _ _ _ _ found.0 read.1, takes-behind _ _ _ found.1 found.2 found.3 read.4) in
    search (rules, taken)

pub returns-in_err-wish_in-clause-consumed : goal.returns-in_err-wish_in-clause-consumed
returns-in_err-wish_in-clause-consumed g c =
    let found = rw c.in-Ok-Some.field-0-is at c.in-Ok-Some.ensures in
    let read = rw c.needed.ensures at c.in-Ok.ensures in
    let kept : HasKept (g.R.Read.remaining c.args.reader.now) (g.R.Read.remaining c.read_body.new.reader) c.read_body.new.bytes.items =
    kept-all _ _ _ (subst (Consumes (g.R.Read.remaining c.args.reader.now) (g.R.Read.remaining c.read_body.new.reader)) (sym read.2)
    (Consumes-trans _ _ _ _ _ found.0 read.1)) in
    search (rules, kept)

pub returns-in-Ok-None-clause-head : goal.returns-in-Ok-None-clause-head
returns-in-Ok-None-clause-head g c =
    let none = rw c.in-Ok-None.field-0-is at c.in-Ok-None.ensures in none.3

pub returns-in-Err-clause-head : goal.returns-in-Err-clause-head
returns-in-Err-clause-head g c = c.in-Err.ensures.2

pub returns-in-Err-read_body-clause-head : goal.returns-in-Err-read_body-clause-head
returns-in-Err-read_body-clause-head g c =
    let found = rw c.in-Ok-Some.field-0-is at c.in-Ok-Some.ensures in
    let failed = c.in-Err-read_body.ensures.1 in
    read-on _ _ _ _ found.1 failed.3

pub returns-clause-head : goal.returns-clause-head
returns-clause-head g c =
    let found = rw c.in-Ok-Some.field-0-is at c.in-Ok-Some.ensures in
    read-on _ _ _ _ found.1 c.in-Ok.ensures.2

pub returns-in_err-wish_in-clause-head : goal.returns-in_err-wish_in-clause-head
returns-in_err-wish_in-clause-head g c =
    let found = rw c.in-Ok-Some.field-0-is at c.in-Ok-Some.ensures in
    read-on _ _ _ _ found.1 c.in-Ok.ensures.2
