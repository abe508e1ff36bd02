-- The field's length, as the row computes it; the check word's vector; what of a header is not read.
-- Assumes nothing.
use Prim.Native.Nat.{ℕ, ◌+◌, ◌-◌, ◌/◌, ◌≤◌}
use mathlib.Core.Path.{◌≡◌, sym, ap, ◌∙◌}
use mathlib.Core.List.{List}
use native.Mathlib.Omega.{arith}
use lib.ListN.{get_or, drop, length-drop}
use lib.Seq.{length-take-le, get_or-take, get_or-drop}
use Rattle.check_rule.proofs.Table as table
use Rattle.row.specs.Field.{field_bytes}
use Rattle.header.specs.Says.{time_in}
use Rattle.block.proofs.KeepsMarked.{mark_unread, reads_marked_alike}
use Rattle.scope.specs.Notions.{word}
use Rattle.scope.specs.Sizes.{Sized}
use Rattle.scope.specs.Blocks.{Vector, Unread}
use Rattle.scope.proofs.LawsFormat.{bits_field}

pub sized : Sized
unfolding field_bytes
sized = record { bits = λ b C bits f. sym (bits_field f); bytes = λ b C bits f. ap (λ (n : ℕ). n / 8) (sym (bits_field f)); spans = λ n. omega arith }

pub vector : Vector
vector = table.vector

time_at : (h : List ℕ) (k : ℕ) → 1 ≤ k → k ≤ 8 → word k (time_in h) ≡ word (16 + k) h
time_at h k l m =
    let e : 16 + (k - 1) ≡ 16 + k - 1 = omega arith in
    get_or-take 8 (drop 16 h) (k - 1) 0 (omega arith) ∙ get_or-drop 16 h (k - 1) 0 ∙ ap (λ (i : ℕ). get_or h i 0) e

pub unread : Unread
unread = record { answer = mark_unread.answer; left = mark_unread.left; marked = reads_marked_alike; eight = λ h l. length-take-le 8 (drop 16 h) (omega (arith, length-drop 16 h)); time = time_at }
