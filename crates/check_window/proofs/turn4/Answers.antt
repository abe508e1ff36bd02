-- `check_window::turn4` meets its contract: the words behind the window, one after another.
-- Assumes nothing.
use Rattle.std.proofs.Common.{rules}
use mathlib.Core.Path.{sym, ap}
use Rattle.check_window.specs.Turn.{pushes}
use Rattle.check_window.proofs.LawsTurn.{written}
use Rattle.check_window.proofs.turn4.Goals as goal

pub returns : goal.returns
returns c = sym (ap (pushes c.args.w) (written 4 c.args.d (search rules)))
