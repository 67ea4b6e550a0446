use Rattle.std.proofs.Common.{◌≡◌, ◌<◌, ℕ, true, List, length, Ok, refl, arith}
use Rattle.std.proofs.lemmas.Bool.Decides.{nat_tests}
use Rattle.std.specs.List.{list_all}
use Rattle.std.proofs.lemmas.Str.{IsUtf8-from_ascii}
use Rattle.gate_text.specs.SmallTexts.{is_commit_digit, commit_of}
use Rattle.gate_text.proofs.GoodBytes.{ascii, none_bad}
use Rattle.gate_text.proofs.commit.Commit.text.Goals as goal

digit_below_128 : (b : ℕ) → is_commit_digit b ≡ true → b < 128
digit_below_128 b digit = grind (arith, nat_tests)

pub unreachable-requires : goal.unreachable-requires
unreachable-requires c = c.in-Err.ensures.cases.0 (IsUtf8-from_ascii _ (ascii is_commit_digit digit_below_128 _ c.self.invariant))

reads_back : (digits : List ℕ) → length digits ≡ 40 → list_all is_commit_digit digits ≡ true → commit_of digits ≡ Ok digits
unfolding commit_of
reads_back digits size good = rw (none_bad is_commit_digit digits good, size) refl

pub returns-clause-digits : goal.returns-clause-digits
returns-clause-digits c = rw (← c.self.view_is) (reads_back c.self.inside.digits c.self.told c.self.invariant)
