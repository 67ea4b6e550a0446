-- WHAT A CALL ON A BOOK says besides its result: it asks and changes nothing, or it commits all or nothing.
use Rattle.std.specs.Prelude.{◌≡◌, Result, IfErr, OnErr, OnOk}
use Rattle.gate_queue.specs.declared.fault.Fault.{Fault}
use Rattle.gate_store.specs.Premise.{PremiseLasts}
use Rattle.gate_store.specs.Run.{IsOfBooks, Records}

module _ {B T : Type 0} (shows : B → Records) (is_sound is_honest is_shielded : B → Type 0) (may_answer : Fault → Type 0) (old new : B) (result : Result T Fault) where
  -- It changes nothing. If it succeeds, a book that is honest is sound.
  pub record Asks : Type 0 where
    pub same : is_sound new → shows new ≡ shows old
    pub outlasts : PremiseLasts is_sound is_honest is_shielded old new
    pub stays : is_honest new → OnOk result (is_sound new)
    pub cause : IfErr result may_answer
    pub fault : IfErr result IsOfBooks

  -- If it succeeds, the book shows these records, and if not, those of before.
  pub record Commits (after : Records) : Type 0 where
    pub ok : is_sound new → OnOk result (shows new ≡ after)
    pub err : is_sound new → OnErr result (shows new ≡ shows old)
    pub outlasts : PremiseLasts is_sound is_honest is_shielded old new
    pub stays : is_honest new → OnOk result (is_sound new)
    pub cause : IfErr result may_answer
    pub fault : IfErr result IsOfBooks
