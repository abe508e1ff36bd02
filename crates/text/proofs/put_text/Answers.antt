-- `text::put_text` meets its contract: what `lay` answers decides.
-- Assumes nothing.
use mathlib.Core.Path.{refl}
use Rattle.ground.proofs.LawsChoice.{yes, no}
use Rattle.text.proofs.put_text.Goals as goal

pub returns-then-lay : goal.returns-then-lay
returns-then-lay c = record { value = yes _ c.lay.ensures.value c.if-lay.true refl; room_after = c.lay.ensures.room_after }

pub returns : goal.returns
returns c = record { value = no _ c.lay.ensures.value c.if-lay.false refl; room_after = c.lay.ensures.room_after }
