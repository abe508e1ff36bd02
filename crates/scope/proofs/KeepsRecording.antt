-- The listing's promises, and a line of it by what its block asks for.
-- Assumes nothing.
use Prim.Native.Nat.{ℕ, ◌+◌, ◌<◌}
use mathlib.Core.Path.{◌≡◌, refl, sym, ap, ◌∙◌}
use borrow.Author.Tests.{lt-ltb}
use Rattle.ground.proofs.LawsChoice.{yes}
use Rattle.recording.specs.declared.Line.{Line}
use Rattle.recording.specs.Lines.{most_fields, seq_after}
use Rattle.recording.proofs.KeepsLines.{gives_fields, block_line, refused_line_is, other_line}
use Rattle.listing.proofs.KeepsListing.{prints_dashes, prints_empty, prints_example, prints_cut}
use Rattle.scope.specs.Recording.{Listing}
use Rattle.scope.proofs.KeepsDemands.{meets_block, enough}

numbered : (before : ℕ) → before < 18446744073709551615 → seq_after before ≡ before + 1
numbered before l = sym (yes _ refl (lt-ltb before most_fields l) refl)

-- a line with its number said so
as_numbered : (before answer block version words : ℕ) {l : Line} → l ≡ record { seq = seq_after before; answer = answer; block = block; version = version; words = words }
    → before < 18446744073709551615 → l ≡ record { seq = before + 1; answer = answer; block = block; version = version; words = words }
as_numbered before answer block version words e l = e ∙ ap (λ (n : ℕ). record { seq = n; answer = answer; block = block; version = version; words = words }) (numbered before l)

pub listing : Listing
unfolding meets_block
listing =
    record {
      field = λ f. refl;
      fields = gives_fields;
      listed = λ before lent block b e m. as_numbered before 0 _ _ _ (block_line before block lent b (meets_block m) (enough block lent b e (meets_block m)));
      refused = λ before lent block f. as_numbered before _ 0 0 0 (refused_line_is before block lent f);
      other = λ before tag lent body f. as_numbered before 15 0 0 0 (other_line before tag body lent f);
      dashes = prints_dashes;
      example = prints_example;
      empty = prints_empty;
      cut = prints_cut;
    }
