-- A message with its check word behind it passes, and what passes is one; and a block made of such messages, taken apart.
-- Assumes nothing.
use Prim.Native.Nat.{ℕ, ◌+◌, ◌*◌, ◌<◌}
use mathlib.Core.Path.{◌≡◌, refl, sym, ap, ◌∙◌}
use mathlib.Core.List.{List, ◌++◌, append_assoc}
use native.Mathlib.Omega.{arith}
use lib.Bits.{xor_lt}
use lib.Dec.{lit<}
use lib.ListN.{length, take, drop, length-append}
use lib.Seq.{take_at, drop_at, drop-drop}
use Rattle.bits.specs.Bits.{Below, sent}
use Rattle.bits.specs.Fields.{field_of}
use Rattle.bits.proofs.LawsBelow.{below_append}
use Rattle.bits.proofs.LawsFields.{length_field_of}
use Rattle.bits.proofs.LawsWords.{spell_below}
use Rattle.check_rule.specs.Check.{generator, check_by, check_length, check_word, bytes_of}
use Rattle.check_rule.specs.Finds.{Passes}
use Rattle.check_rule.proofs.LawsFeed.{feed_lt}
use Rattle.copies.specs.Copies.{header_length, copy_length, copies_length, copy_at}
use Rattle.copies.specs.Agreed.{ThreeEqual}
use Rattle.copies.proofs.LawsAgreed.{each}
use Rattle.block.specs.Layout.{block_length}
use Rattle.writer.specs.Blocks.{sealed, copies_of, block_of}

pub length_sealed : (m : List ℕ) → length (sealed m) ≡ length m + check_length
length_sealed m = length-append m (bytes_of (check_word m))

pub sealed_passes : (m : List ℕ) → Passes generator (sealed m)
sealed_passes m = record { message = m; followed = refl }

-- what passes is its front, sealed
pub passes_sealed : (s : List ℕ) (n : ℕ) → length s ≡ n + check_length → Passes generator s → sealed (take n s) ≡ s
passes_sealed s n l p =
    let m = p.message in
    let long : length m ≡ n = omega (arith, ap length p.followed, length_sealed m) in
    ap sealed (ap (take n) p.followed ∙ take_at m (bytes_of (check_word m)) n long) ∙ sym p.followed

check_small : (m : List ℕ) → check_word m < 65536
unfolding check_by
check_small m = xor_lt 16 _ 0xFFFF (feed_lt generator (lit< tt) 0xFFFF (sent m) (lit< tt) (spell_below 8 m)) (lit< tt)

pub sealed_below : (m : List ℕ) → Below 256 m → Below 256 (sealed m)
sealed_below m b = below_append 256 m (bytes_of (check_word m)) b (omega (arith, check_small m), (omega arith, tt))

-- ---- a block

pub copies_long : (h : List ℕ) → length h ≡ header_length → length (copies_of h) ≡ copies_length
copies_long h l = let c = sealed h in length-append c (c ++ c) ∙ omega (arith, length-append c c, length_sealed h)

-- a copy three times, and what stands behind it
module _ (c rest : List ℕ) where
  abbrev pub thrice : List ℕ
  thrice = c ++ (c ++ (c ++ rest))

  pub thrice_below : Below 256 c → Below 256 rest → Below 256 thrice
  thrice_below bc br = below_append 256 c (c ++ (c ++ rest)) bc (below_append 256 c (c ++ rest) bc (below_append 256 c rest bc br))

  module _ (l : length c ≡ copy_length) where
    behind_1 : drop copy_length thrice ≡ c ++ (c ++ rest)
    behind_1 = drop_at c (c ++ (c ++ rest)) copy_length l

    behind_2 : drop (2 * copy_length) thrice ≡ c ++ rest
    behind_2 = sym (drop-drop copy_length copy_length thrice) ∙ ap (drop copy_length) behind_1 ∙ drop_at c (c ++ rest) copy_length l

    pub behind_3 : drop copies_length thrice ≡ rest
    behind_3 = sym (drop-drop copy_length (2 * copy_length) thrice) ∙ ap (drop copy_length) behind_2 ∙ drop_at c rest copy_length l

    pub thrice_equal : ThreeEqual thrice c
    thrice_equal =
        each (λ k. copy_at k thrice ≡ c) (take_at c (c ++ (c ++ rest)) copy_length l)
        (ap (take copy_length) behind_1 ∙ take_at c (c ++ rest) copy_length l) (ap (take copy_length) behind_2 ∙ take_at c rest copy_length l)

module _ (h : List ℕ) (size bytes : ℕ) (ws : List ℕ) where
  abbrev field : List ℕ
  field = field_of size bytes ws

  pub block_parts : block_of h size bytes ws ≡ thrice (sealed h) (sealed field)
  unfolding block_of
  block_parts =
      let c = sealed h in
      append_assoc c (c ++ c) (sealed field) ∙ ap (λ (t : List ℕ). c ++ t) (append_assoc c c (sealed field))

  pub length_block : length h ≡ header_length → length (block_of h size bytes ws) ≡ block_length bytes
  unfolding block_of
  length_block l = length-append (copies_of h) (sealed field) ∙ omega (arith, copies_long h l, length_sealed field, length_field_of size bytes ws)
