-- WHAT BECOMES OF A BOOK'S PREMISE over a call: a book that is sound after it was sound before, one that is honest after it was honest
-- before, and one that was shielded still is.
pub record PremiseLasts {B : Type 0} (is_sound is_honest is_shielded : B → Type 0) (old new : B) : Type 0 where
  pub was : is_sound new → is_sound old
  pub honest : is_honest new → is_honest old
  pub shield : is_shielded old → is_shielded new
