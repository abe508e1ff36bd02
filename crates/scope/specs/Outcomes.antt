-- What a contract settles: any two outcomes that it allows for the same arguments are equal, the answer and what lent places hold after.
-- `Ended` is a function's signature with what its contract sees at the end, `Lasts` the values that the lent places are left with. Assumes nothing.
use Rattle.std.specs.Prelude.{◌≡◌, refl}
use base.Logic.{emp}
use contract.Lifetimes.{Lfts}
use denote.Triple.Entry.{Args, Res}
use denote.Triple.Clauses.{Ended, Lasts, AtExit, at_exit}
use borrow.Fn.Claims.{AllOf}
use borrow.Fn.World.{World, Pr}
use borrow.Fn.Read.{Read, no_know, all_models, r_last}
use Rattle.watch.specs.contracts.offer

-- what a contract says of an answer and of the lent places
abbrev pub Contract : Ended → Type 1
Contract T = (κs : Lfts T.signature.lifetimes) → Args T.signature κs → Res T.signature κs → AtExit T κs → Type 0

pub record Outcome (T : Ended) (allows : Contract T) (κs : Lfts T.signature.lifetimes) (given : Args T.signature κs) : Type 0 where
  pub answer : Res T.signature κs
  pub left : Lasts T κs given
  pub allowed : allows κs given answer (at_exit T κs given left)

-- what of two outcomes is to be equal is said by `Alike`
abbrev pub SettledUpTo : (T : Ended) → ((κs : Lfts T.signature.lifetimes) → Res T.signature κs → Res T.signature κs → Type 0) → Contract T → Type 0
SettledUpTo T Alike allows =
    (κs : Lfts T.signature.lifetimes) (given : Args T.signature κs) (x y : Outcome T allows κs given) → Alike κs x.answer y.answer × (x.left ≡ y.left)

abbrev pub Settled : (T : Ended) → Contract T → Type 0
Settled T allows = SettledUpTo T (λ _ a b. a ≡ b) allows

-- what the contract of `watch::offer` says, read off its clause; of every other function the prover has it ready, as `Learnt`
abbrev ensured : (κs : Lfts (offer.ended).signature.lifetimes) → Args (offer.ended).signature κs → Res (offer.ended).signature κs → AtExit offer.ended κs → (w : World) → Pr w
ensured κs given answer left w = (offer.clauses w.𝓛 w.𝓜.mem w.𝓡.returns κs given).ensures tt answer left

abbrev reading : (κs : Lfts (offer.ended).signature.lifetimes) (given : Args (offer.ended).signature κs) (answer : Res (offer.ended).signature κs) (left : AtExit offer.ended κs)
    → Read (λ w. emp w.𝓤) no_know (ensured κs given answer left)
reading κs given answer left = all_models (ensured κs given answer left) (λ w. r_last _) (λ w. refl) (λ w. refl) (λ w. refl)

abbrev pub offered : Contract offer.ended
offered κs given answer left = AllOf (reading κs given answer left).tells
