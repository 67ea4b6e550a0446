-- How serving ends: behind the last line, or at a fault.
use Rattle.std.proofs.Common.{◌≡◌, ℕ, ◌+◌, ◌<◌, ◌≤◌, inl, inr, List, [], ◌∷◌, ◌++◌, length, take, Option, Result, Ok, Err, refl, sym, ◌∙◌, ap, subst, append_assoc, append-nil, lit<, arith}
use Rattle.std.proofs.Math.Seq.{take-append_seam}
use Rattle.std.proofs.lemmas.List.{length-take}
use Rattle.std.specs.Io.KnownBytes.{IsAtEnd}
use Rattle.gate_queue.specs.declared.fault.Fault.{Fault}
use Rattle.gate_store.specs.Run.{Records}
use Rattle.gate_hook.specs.Lines.{ended_lines, open_line, last_line, lines_of, AreComplete, IsServed, IsWithinLimit, MayEnd, Serves}
use Rattle.gate_hook.specs.Serving.{IsAnswered, IsOfGate, IsTold, IsUpTo, MayStop, StaysSound, StopsBehind, StopsWithin, ToldBehind, kept_of}
use Rattle.gate_hook.specs.declared.fault.HookFault.{HookFault}
use Rattle.gate_hook.specs.declared.fault.HookFault.TheVariants.{Gate, Read, Write, TooMuch}
use Rattle.gate_hook.proofs.Splitting.{ended_at, ended_lines-feed}
use Rattle.gate_hook.proofs.Taking.{ends, stops, tells}

-- AT A FAULT, which stands at the line that is open after some input
stops_served : (fault : HookFault) (opened : Records) (input : List ℕ) (new : Records) (before after : Option (List ℕ)) (whole : List ℕ) (left : Option (List ℕ))
    → AreComplete whole left (ended_lines input ++ open_line input ∷ []) → StopsBehind fault opened input new before after
    → IsServed (Err fault) opened whole left new before after
stops_served (Gate fault) opened input new before after whole left complete behind =
    record { told = record { served = ended_lines input; line = open_line input; complete = complete; written = behind.1; room = behind.2 }; records = behind.0 }
stops_served Write opened input new before after whole left complete behind =
    record { served = ended_lines input; line = open_line input; complete = complete; records = behind.0; taken = behind.1.0; part = behind.1.1; written = behind.1.2; room = behind.2 }
stops_served Read opened input new before after whole left complete behind = absurd behind
stops_served TooMuch opened input new before after whole left complete behind = absurd behind

told_served : (fault : HookFault) (opened : Records) (input : List ℕ) (before after : Option (List ℕ)) (whole : List ℕ) (left : Option (List ℕ))
    → AreComplete whole left (ended_lines input ++ open_line input ∷ []) → ToldBehind fault opened input before after
    → IsTold {X = ℕ} (Err fault) opened whole left before after
told_served (Gate fault) opened input before after whole left complete behind =
    record { served = ended_lines input; line = open_line input; complete = complete; written = behind.0; room = behind.1 }
told_served Read opened input before after whole left complete behind = tt
told_served Write opened input before after whole left complete behind = tt
told_served TooMuch opened input before after whole left complete behind = tt

-- among the bytes of a chunk
complete_within : (input chunk front others : List ℕ) (left : Option (List ℕ)) → chunk ≡ front ++ 10 ∷ others
    → AreComplete (input ++ chunk) left (ended_lines (input ++ front) ++ open_line (input ++ front) ∷ [])
complete_within input chunk front others left bytes =
    let until = input ++ front in
    let whole : input ++ chunk ≡ until ++ 10 ∷ others =
    ap (λ (rest : List ℕ). input ++ rest) bytes ∙ sym (append_assoc input front (10 ∷ others)) in
    let ended : ended_lines (input ++ chunk) ≡ (ended_lines until ++ open_line until ∷ []) ++ ended_lines others =
    ap ended_lines whole ∙ ended_at until others ∙ sym (append_assoc (ended_lines until) (open_line until ∷ []) (ended_lines others)) in
    inl (ended_lines others, ended)

pub within_served : (sound honest : Type 0) (fault : HookFault) (opened : Records) (input chunk : List ℕ) (left : Option (List ℕ)) (new : Records)
    (before after : Option (List ℕ))
    → StopsWithin sound honest fault opened input chunk new before after → sound → IsServed (Err fault) opened (input ++ chunk) left new before after
within_served sound honest fault opened input chunk left new before after within premise =
    stops_served fault opened (input ++ within.front) new before after (input ++ chunk) left
    (complete_within input chunk within.front within.others left within.bytes) (within.stops premise)

pub within_told : (sound honest : Type 0) (fault : HookFault) (opened : Records) (input chunk : List ℕ) (left : Option (List ℕ)) (new : Records)
    (before after : Option (List ℕ))
    → StopsWithin sound honest fault opened input chunk new before after → honest → IsTold {X = ℕ} (Err fault) opened (input ++ chunk) left before after
within_told sound honest fault opened input chunk left new before after within premise =
    told_served fault opened (input ++ within.front) before after (input ++ chunk) left
    (complete_within input chunk within.front within.others left within.bytes) (within.told premise)

-- BEHIND THE LAST LINE FEED
none_kept : (m b : ℕ) (bs : List ℕ) → 0 < m → length (take m (b ∷ bs)) ≡ 0 → ⊥
none_kept m b bs room none = omega (arith, length-take m (b ∷ bs))

nothing_open : (line : List ℕ) → length (kept_of line) ≡ 0 → last_line line ≡ []
nothing_open [] none = refl
nothing_open (b ∷ bs) none = absurd (none_kept 65537 b bs (lit< tt) none)

some_kept : (m : ℕ) → 0 < length {A = ℕ} (take m []) → ⊥
some_kept m some = omega (arith, length-take {A = ℕ} m [])

something_open : (line : List ℕ) → 0 < length (kept_of line) → last_line line ≡ line ∷ []
something_open [] some = absurd (some_kept 65537 some)
something_open (b ∷ bs) some = refl

pub ends_empty : (sound : Type 0) (opened : Records) (input : List ℕ) (left : Option (List ℕ)) (now : Records) (line : List ℕ) (count : ℕ)
    (before after : Option (List ℕ))
    → length line ≡ 0 → IsUpTo sound opened input now line count before after → sound → IsServed (Ok count) opened input left now before after
ends_empty sound opened input left now line count before after none so_far premise =
    let nothing = nothing_open (open_line input) (ap length (sym so_far.line) ∙ none) in
    let all : ended_lines input ≡ lines_of input =
    sym (ap (λ (lines : List (List ℕ)). ended_lines input ++ lines) nothing ∙ append-nil (ended_lines input)) in
    rw (← all) (so_far.count, (so_far.records premise, so_far.written premise, so_far.room premise))

-- the line that is open is the last
lines_open : (input line : List ℕ) → line ≡ kept_of (open_line input) → 0 < length line → lines_of input ≡ ended_lines input ++ open_line input ∷ []
lines_open input line is some =
    ap (λ (lines : List (List ℕ)). ended_lines input ++ lines) (something_open (open_line input) (subst (λ (kept : List ℕ). 0 < length kept) is some))

pub ends_last : (old_sound sound : Type 0) (opened : Records) (input : List ℕ) (left : Option (List ℕ)) (old new : Records) (line : List ℕ) (count : ℕ)
    (before between after : Option (List ℕ))
    → 0 < length line → (sound → old_sound) → IsUpTo old_sound opened input old line count before between
    → (sound → IsAnswered (Ok tt) old line new between after)
    → sound → IsServed (Ok (count + 1)) opened input left new before after
ends_last old_sound sound opened input left old new line count before between after some was so_far done premise =
    let fed = ends old_sound sound opened input old new line count before between after was so_far done in
    let all : ended_lines (input ++ 10 ∷ []) ≡ lines_of input = ended_lines-feed input ∙ sym (lines_open input line so_far.line some) in
    rw (← all) (fed.count, (fed.records premise, fed.written premise, fed.room premise))

pub stops_last : (old_sound sound : Type 0) (opened : Records) (input : List ℕ) (left : Option (List ℕ)) (old new : Records) (line : List ℕ) (count : ℕ)
    (before between after : Option (List ℕ)) (fault : HookFault)
    → 0 < length line → IsAtEnd left → (sound → old_sound) → IsUpTo old_sound opened input old line count before between
    → (sound → IsAnswered (Err fault) old line new between after)
    → sound → IsServed (Err fault) opened input left new before after
stops_last old_sound sound opened input left old new line count before between after fault some at_end was so_far refused premise =
    stops_served fault opened input new before after input left (inr (lines_open input line so_far.line some, at_end))
    (stops old_sound sound opened input old new line count before between after fault was so_far refused premise)

pub told_last : (sound : Type 0) (opened : Records) (input : List ℕ) (left : Option (List ℕ)) (now : Records) (line : List ℕ) (count : ℕ)
    (before between after : Option (List ℕ)) (fault : HookFault)
    → 0 < length line → IsAtEnd left → IsUpTo sound opened input now line count before between → (IsOfGate fault → after ≡ between)
    → sound → IsTold {X = ℕ} (Err fault) opened input left before after
told_last sound opened input left now line count before between after fault some at_end so_far unwritten premise =
    told_served fault opened input before after input left (inr (lines_open input line so_far.line some, at_end))
    (tells sound opened input now line count before between after fault so_far unwritten premise)

-- OVER A BOOK THAT IS HONEST
pub serves : (sound : Type 0) (result : Result ℕ HookFault) (old : Records) (input : List ℕ) (left : Option (List ℕ)) (new : Records) (before after : Option (List ℕ))
    → StaysSound result sound → (sound → IsServed result old input left new before after) → IsTold result old input left before after
    → Serves sound result old input left new before after
serves sound (Ok count) old input left new before after stays served told = (stays, served stays)
serves sound (Err Read) old input left new before after stays served told = (stays, served stays)
serves sound (Err TooMuch) old input left new before after stays served told = (stays, served stays)
serves sound (Err Write) old input left new before after stays served told = (stays, served stays)
serves sound (Err (Gate fault)) old input left new before after stays served told = (told, stays, served)

-- THE FAULTS: that of a line is none of the reader's, so the input is within the limit; and so it may end serving.
pub stops_within : (may_answer : Fault → Type 0) (fault : HookFault) (input : List ℕ)
    → length input ≤ 4294967296 → MayStop may_answer fault → IsWithinLimit (Err fault) input
stops_within may_answer (Gate fault) input within may = within
stops_within may_answer Write input within may = within
stops_within may_answer Read input within may = absurd may
stops_within may_answer TooMuch input within may = absurd may

pub may_end : (may_answer : Fault → Type 0) (fault : HookFault) → MayStop may_answer fault → MayEnd may_answer fault
may_end may_answer (Gate fault) may = may
may_end may_answer Write may = tt
may_end may_answer Read may = tt
may_end may_answer TooMuch may = tt

-- PAST THE LIMIT
cut_at_limit : (m : ℕ) (input chunk : List ℕ) → length input ≡ m → take m (input ++ chunk) ≡ input
cut_at_limit m input chunk size = subst (λ (n : ℕ). take n (input ++ chunk) ≡ input) size (take-append_seam input chunk)

pub too_much : (sound : Type 0) (opened : Records) (input chunk : List ℕ) (left : Option (List ℕ)) (now : Records) (line : List ℕ) (count : ℕ)
    (before after : Option (List ℕ))
    → length input ≡ 4294967296 → IsUpTo sound opened input now line count before after
    → sound → IsServed (Err TooMuch) opened (input ++ chunk) left now before after
too_much sound opened input chunk left now line count before after size so_far premise =
    rw (cut_at_limit 4294967296 input chunk size) (so_far.records premise, so_far.written premise, so_far.room premise)
