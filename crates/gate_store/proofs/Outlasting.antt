-- The premise of a book outlasts no call, and one call after another.
use Rattle.gate_store.specs.Outlasting.{Outlasts}
use Rattle.gate_store.specs.declared.book.Book as book

module _ {B : Type 0} (g : book.Ghosts B) where
  pub outlasts_none : (book : B) → Outlasts g book book
  outlasts_none book = record { was = λ sound. sound; honest = λ honest. honest; shield = λ shielded. shielded }

  pub outlasts_both : (first second third : B) → Outlasts g first second → Outlasts g second third → Outlasts g first third
  outlasts_both first second third one other = record {
    was = λ sound. one.was (other.was sound);
    honest = λ honest. one.honest (other.honest honest);
    shield = λ shielded. other.shield (one.shield shielded);
  }
