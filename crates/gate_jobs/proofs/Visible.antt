-- Visible ASCII is a text.
use Rattle.std.proofs.Common.{◌≡◌, ℕ, ◌<◌, true, List, arith}
use Rattle.std.proofs.lemmas.Bool.Decides.{nat_tests}
use Rattle.std.proofs.lemmas.List.Sums.{AllPass-from_list_all}
use Rattle.std.proofs.lemmas.Str.{IsUtf8-from_ascii}
use Rattle.std.proofs.lemmas.Str.Ascii.{IsAscii-from_all}
use Rattle.std.specs.Char.{is_ascii_graphic}
use Rattle.std.specs.List.{list_all}
use Rattle.std.specs.Str.{IsUtf8}

visible_ascii : (b : ℕ) → is_ascii_graphic b ≡ true → b < 128
visible_ascii b visible = grind (arith, nat_tests)

pub visible-text : (text : List ℕ) → list_all is_ascii_graphic text ≡ true → IsUtf8 text
visible-text text all =
    IsUtf8-from_ascii text (IsAscii-from_all text (λ k d within. visible_ascii _ (AllPass-from_list_all is_ascii_graphic text all k d within)))
