-- `check_window::number_of` meets its contract: mirrored, the word is the eight bytes with the first one highest.
-- Assumes nothing.
use Rattle.std.proofs.Common.{rules}
use Rattle.check_window.proofs.LawsTurn.{mirror_bytes}
use Rattle.check_window.proofs.number_of.Goals as goal

pub returns : goal.returns
returns c = mirror_bytes c.args.word _ (search rules) (search rules) c.from_le_bytes.ensures
