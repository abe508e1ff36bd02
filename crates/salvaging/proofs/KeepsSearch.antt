-- The pieces that a search gives cover the input, are right and are longest; and no other pieces do all that.
-- Assumes nothing.
use Prim.Native.Nat.{ℕ, zero, suc, ◌+◌, ◌-◌, ◌*◌, ◌/◌, ◌≤◌, ◌<◌}
use mathlib.Core.Path.{◌≡◌, refl, sym, ap, ap₂, subst, ◌∙◌}
use mathlib.Core.Logic.{◌⊎◌, inl, inr, ⊎_elim}
use mathlib.Core.Bool.{Bool, true, false}
use mathlib.Core.List.{List, [], ◌∷◌, ◌++◌}
use native.Mathlib.Omega.{arith}
use lib.Dec.{ltb}
use lib.ListN.{length, take, drop, length-drop, length-append}
use lib.Seq.{take-add, take_all, drop-drop}
use borrow.Author.Tests.{ltb-true, ltb-false}
use Rattle.ground.specs.Choice.{pick}
use Rattle.ground.proofs.LawsTests.{never}
use Rattle.bits.specs.Bits.{Below}
use Rattle.bits.proofs.LawsBelow.{below_drop}
use Rattle.made.specs.Made.{length_by, made}
use Rattle.made.specs.Promises.{MakesBlock}
use Rattle.made.proofs.LawsMade.{made_so, made_long, length_least}
use Rattle.made.proofs.KeepsMade.{makes_exactly}
use Rattle.recording.specs.Fields.{written, joined}
use Rattle.salvaging.specs.Pieces.{copy_of, start_from, Piece, block, span, gap, block_at, end_at, pieces_from, pieces_of, field_by, fields_of, recording_of, report_of}
use Rattle.salvaging.specs.Promises.{FirstCopy, NoStart, Cover, Right, Longest, Searched, SearchesOnce, bytes_of, CoversOnce, RoomSuffices}
use Rattle.salvaging.proofs.LawsSearch.{copy_makes, before_none, none_all, start_in_is, start_found, start_none}

-- which of two numbers is smaller
pub order : (a b : ℕ) → (a < b) ⊎ ((a ≡ b) ⊎ (b < a))
order a b = by (ltb a b) (ltb b a) refl refl
  where
    by : (s t : Bool) → ltb a b ≡ s → ltb b a ≡ t → (a < b) ⊎ ((a ≡ b) ⊎ (b < a))
    by true t e f = inl (ltb-true a b e)
    by false true e f = inr (inr (ltb-true b a f))
    by false false e f = let x = ltb-false a b e in let y = ltb-false b a f in inr (inl (omega arith))

-- ---- what the search's tests say

module _ (input : List ℕ) (bytes : Below 256 input) where
  pub no_start : (i k : ℕ) (b : List ℕ) → 3 ≤ copy_of (drop i input) → MakesBlock k (drop i input) b → ⊥
  no_start i k b n m = never (sym (none_all (drop i input) n k) ∙ (makes_exactly.only k (drop i input) b (below_drop 256 i input bytes) m).0)

  pub first_copy : (s : ℕ) → copy_of (drop s input) < 3 → FirstCopy input s (length_by (copy_of (drop s input)) (drop s input)) (copy_of (drop s input))
  first_copy s h =
      let r = drop s input in
      let k = copy_of r in
      let m = copy_makes r h in
      let so = made_so k r m in
      record {
        block = made k r;
        makes = makes_exactly.there k r (below_drop 256 s input bytes) m;
        long = sym (made_long k r so.one so.inside);
        first = λ j b l x. never (sym (before_none r j l) ∙ (makes_exactly.only j r b (below_drop 256 s input bytes) x).0);
      }

  -- the first copy and its block are settled
  pub same_copy : {s n m k j : ℕ} → FirstCopy input s n k → FirstCopy input s m j → (k ≡ j) × (n ≡ m)
  same_copy {s} {n} {m} {k} {j} x y =
      let e : k ≡ j =
      ⊎_elim (λ l. absurd (y.first k x.block l x.makes)) (⊎_elim (λ q. q) (λ l. absurd (x.first j y.block l y.makes))) (order k j) in
      let is : (i : ℕ) (b : List ℕ) → MakesBlock i (drop s input) b → b ≡ made i (drop s input) = λ i b z. (makes_exactly.only i (drop s input) b (below_drop 256 s input bytes) z).1 in
      (e, x.long ∙ ap length (is k x.block x.makes ∙ ap (λ (i : ℕ). made i (drop s input)) e ∙ sym (is j y.block y.makes)) ∙ sym y.long)

  -- ---- the pieces are searched

  gap_covers : (a z e : ℕ) (ps : List Piece) → a ≤ z → Cover z ps e → Cover a (gap a z ++ ps) e
  unfolding Cover gap
  gap_covers a z e ps l c = by (ltb a z) refl
    where
      by : (t : Bool) → ltb a z ≡ t → Cover a (pick t (span a (z - a) ∷ []) [] ++ ps) e
      by true t = let q : z ≡ a + (z - a) = omega arith in (refl, (let h = ltb-true a z t in omega arith, subst (λ (k : ℕ). Cover k ps e) q c))
      by false t = let h = ltb-false a z t in let q : z ≡ a = omega arith in subst (λ (k : ℕ). Cover k ps e) q c

  gap_right : (a z : ℕ) (ps : List Piece) → a ≤ z → ((i k : ℕ) (b : List ℕ) → a ≤ i → i < z → MakesBlock k (drop i input) b → ⊥) → Right input ps → Right input (gap a z ++ ps)
  unfolding Right gap
  gap_right a z ps l n r = by (ltb a z)
    where
      by : (t : Bool) → Right input (pick t (span a (z - a) ∷ []) [] ++ ps)
      by true = ((λ i k b x y. n i k b x (omega arith)), r)
      by false = r

  gap_longest : (a z : ℕ) (ps : List Piece) → Longest true ps → Longest false ps → Longest false (gap a z ++ ps)
  unfolding Longest gap
  gap_longest a z ps x y = by (ltb a z)
    where
      by : (t : Bool) → Longest false (pick t (span a (z - a) ∷ []) [] ++ ps)
      by true = x
      by false = y

  record Sound (from : ℕ) (ps : List Piece) : Type 0 where
    covers : Cover from ps (length input)
    right : Right input ps
    longest : Longest false ps

  none_before : (from : ℕ) → from ≤ length input → (i k : ℕ) (b : List ℕ) → from ≤ i → i < start_from from input → MakesBlock k (drop i input) b → ⊥
  none_before from w i k b x y = no_start i k b (start_none from input w i x y)

  module _ (from : ℕ) (w : from ≤ length input) where
    end_sound : length input ≤ start_from from input → Sound from (gap from (start_from from input) ++ [])
    unfolding Cover Right Longest
    end_sound h =
        let s = start_in_is from input w in
        record {
          covers = gap_covers from (start_from from input) (length input) [] s.0 (omega arith);
          right = gap_right from (start_from from input) [] s.0 (none_before from w) tt;
          longest = gap_longest from (start_from from input) [] tt tt;
        }

    hit_sound : (ps : List Piece) → start_from from input < length input → Sound (end_at (start_from from input) input) ps
        → Sound from (gap from (start_from from input) ++ (block_at (start_from from input) input ∷ ps))
    unfolding block_at end_at Cover Right Longest
    hit_sound ps h r =
        let s = start_in_is from input w in
        let f = start_found from input w h in
        let z = length_least (copy_of (drop (start_from from input) input)) (drop (start_from from input) input) in
        record {
          covers = gap_covers from (start_from from input) (length input) _ s.0 (refl, (omega (arith, z), r.covers));
          right = gap_right from (start_from from input) _ s.0 (none_before from w) (first_copy (start_from from input) f, r.right);
          longest = gap_longest from (start_from from input) _ r.longest r.longest;
        }

    hit_end : start_from from input < length input → (end_at (start_from from input) input ≤ length input) × (from < end_at (start_from from input) input)
    unfolding end_at
    hit_end h =
        let s = start_in_is from input w in
        let k = copy_of (drop (start_from from input) input) in
        let m = made_so k (drop (start_from from input) input) (copy_makes (drop (start_from from input) input) (start_found from input w h)) in
        (omega (arith, m.inside, length-drop (start_from from input) input), omega (arith, length_least k (drop (start_from from input) input)))

    step : (ps : List Piece) → (start_from from input < length input → Sound (end_at (start_from from input) input) ps)
        → Sound from (gap from (start_from from input) ++ pick (ltb (start_from from input) (length input)) (block_at (start_from from input) input ∷ ps) [])
    step ps r = by (ltb (start_from from input) (length input)) refl
      where
        by : (t : Bool) → ltb (start_from from input) (length input) ≡ t → Sound from (gap from (start_from from input) ++ pick t (block_at (start_from from input) input ∷ ps) [])
        by true e = let h = ltb-true (start_from from input) (length input) e in hit_sound ps h (r h)
        by false e = end_sound (ltb-false (start_from from input) (length input) e)

  sound : (n from : ℕ) → from ≤ length input → length input < from + n → Sound from (pieces_from n from input)
  unfolding pieces_from
  sound zero from w h = absurd (omega arith)
  sound (suc n) from w h =
      step from w (pieces_from n (end_at (start_from from input) input) input)
      (λ l. let e = hit_end from w l in sound n (end_at (start_from from input) input) e.0 (omega arith))

  pub searched : Searched input (pieces_of input)
  searched = let s = sound (suc (length input)) 0 (omega arith) (omega arith) in record { covers = s.covers; right = s.right; longest = s.longest }

  -- ---- and are the only ones

  cover_le : (a : ℕ) (ps : List Piece) (e : ℕ) → Cover a ps e → a ≤ e
  unfolding Cover
  cover_le a [] e c = omega arith
  cover_le a (block s n k ∷ ps) e c = let l = cover_le (a + n) ps e c.1.1 in omega arith
  cover_le a (span s n ∷ ps) e c = let l = cover_le (a + n) ps e c.1.1 in omega arith

  -- a span that no span follows reaches as far as any other from its start
  reaches : (a n m e : ℕ) (ps : List Piece) → Cover (a + n) ps e → Right input ps → Longest true ps → NoStart input a m → a + m ≤ e → m ≤ n
  unfolding Cover Right Longest
  reaches a n m e [] c r l f h = omega arith
  reaches a n m e (block s b k ∷ ps) c r l f h =
      ⊎_elim (λ x. absurd (f s k r.0.block (omega (arith, c.0)) (omega (arith, c.0)) r.0.makes)) (⊎_elim (λ q. omega arith) (λ x. omega arith)) (order n m)
  reaches a n m e (span s b ∷ ps) c r l f h = absurd l

  unique : (t : Bool) (a e : ℕ) (ps qs : List Piece) → Cover a ps e → Cover a qs e → Right input ps → Right input qs → Longest t ps → Longest t qs → ps ≡ qs
  unfolding Cover Right Longest
  unique t a e [] [] c d r q l m = refl
  unique t a e [] (block s n k ∷ qs) c d r q l m = let x = cover_le (a + n) qs e d.1.1 in absurd (omega arith)
  unique t a e [] (span s n ∷ qs) c d r q l m = let x = cover_le (a + n) qs e d.1.1 in absurd (omega arith)
  unique t a e (block s n k ∷ ps) [] c d r q l m = let x = cover_le (a + n) ps e c.1.1 in absurd (omega arith)
  unique t a e (span s n ∷ ps) [] c d r q l m = let x = cover_le (a + n) ps e c.1.1 in absurd (omega arith)
  unique t a e (block s n k ∷ ps) (span s' n' ∷ qs) c d r q l m =
      absurd (q.0 s k r.0.block (omega (arith, c.0, d.0)) (omega (arith, c.0, d.0)) r.0.makes)
  unique t a e (span s n ∷ ps) (block s' n' k' ∷ qs) c d r q l m =
      absurd (r.0 s' k' q.0.block (omega (arith, c.0, d.0)) (omega (arith, c.0, d.0)) q.0.makes)
  unique t a e (block s n k ∷ ps) (block s' n' k' ∷ qs) c d r q l m =
      let u = same_copy (subst (λ (i : ℕ). FirstCopy input i n k) (c.0 ∙ sym d.0) r.0) q.0 in
      let v : ps ≡ qs = unique false (a + n) e ps qs c.1.1 (subst (λ (i : ℕ). Cover (a + i) qs e) (sym u.1) d.1.1) r.1 q.1 l m in
      λ i. block ((c.0 ∙ sym d.0) i) (u.1 i) (u.0 i) ∷ v i
  unique false a e (span s n ∷ ps) (span s' n' ∷ qs) c d r q l m =
      let le : n' ≤ n = reaches a n n' e ps c.1.1 r.1 l (subst (λ (i : ℕ). NoStart input i n') d.0 q.0) (cover_le (a + n') qs e d.1.1) in
      let ge : n ≤ n' = reaches a n' n e qs d.1.1 q.1 m (subst (λ (i : ℕ). NoStart input i n) c.0 r.0) (cover_le (a + n) ps e c.1.1) in
      let u : n ≡ n' = omega arith in
      let v : ps ≡ qs = unique true (a + n) e ps qs c.1.1 (subst (λ (i : ℕ). Cover (a + i) qs e) (sym u) d.1.1) r.1 q.1 l m in
      λ i. span ((c.0 ∙ sym d.0) i) (u i) ∷ v i
  unique true a e (span s n ∷ ps) (span s' n' ∷ qs) c d r q l m = absurd l

  pub only_pieces : (ps : List Piece) → Searched input ps → ps ≡ pieces_of input
  only_pieces ps s = let t = searched in unique false 0 (length input) ps (pieces_of input) s.covers t.covers s.right t.right s.longest t.longest

  -- ---- the bytes of the pieces, and how many there can be

  joins : (a e s n : ℕ) {bs : List ℕ} → s ≡ a → a + n ≤ e → bs ≡ take (e - (a + n)) (drop (a + n) input) → take n (drop s input) ++ bs ≡ take (e - a) (drop a input)
  joins a e s n q l ih =
      let x : e - a ≡ n + (e - (a + n)) = omega arith in
      ap₂ (λ (p r : List ℕ). p ++ r) (ap (λ (i : ℕ). take n (drop i input)) q) (ih ∙ ap (take (e - (a + n))) (sym (drop-drop n a input)))
      ∙ sym (ap (λ (m : ℕ). take m (drop a input)) x ∙ take-add n (e - (a + n)) (drop a input))

  cover_bytes : (a e : ℕ) (ps : List Piece) → Cover a ps e → bytes_of input ps ≡ take (e - a) (drop a input)
  unfolding Cover bytes_of
  cover_bytes a e [] c = let z : e - a ≡ 0 = omega arith in sym (ap (λ (n : ℕ). take n (drop a input)) z)
  cover_bytes a e (block s n k ∷ ps) c = joins a e s n c.0 (cover_le (a + n) ps e c.1.1) (cover_bytes (a + n) e ps c.1.1)
  cover_bytes a e (span s n ∷ ps) c = joins a e s n c.0 (cover_le (a + n) ps e c.1.1) (cover_bytes (a + n) e ps c.1.1)

  pub covers_input : bytes_of input (pieces_of input) ≡ input
  covers_input =
      cover_bytes 0 (length input) (pieces_of input) searched.covers ∙ take_all (length input - 0) (drop 0 input) (omega (arith, length-drop 0 input))

  -- a block takes 2,772 bytes at least, and three more in the recording; before it and behind the last there may be a span
  record Bounded (a e spare : ℕ) (ps : List Piece) : Type 0 where
    few_blocks : length (fields_of input ps) * 2772 + a ≤ e
    few_bytes : length (recording_of input ps) + a ≤ e + length (fields_of input ps) * 3
    few_entries : length ps ≤ length (fields_of input ps) * 2 + spare

  -- the length of a block's field
  field_length : {s n k : ℕ} → FirstCopy input s n k → (length (written (field_by k (drop s input))) ≡ n + 3) × (2772 ≤ n)
  field_length {s} {n} {k} f =
      let e = ap length (makes_exactly.only k (drop s input) f.block (below_drop 256 s input bytes) f.makes).1 in
      (omega (arith, f.long, e), omega (arith, f.long, makes_exactly.least k (drop s input) f.block f.makes))

  bounds : (t : Bool) (a e : ℕ) (ps : List Piece) → Cover a ps e → Right input ps → Longest t ps → Bounded a e (pick t 0 1) ps
  unfolding Cover Right Longest fields_of joined
  bounds t a e [] c r l = record { few_blocks = omega arith; few_bytes = omega arith; few_entries = omega arith }
  bounds t a e (block s n k ∷ ps) c r l =
      let b = bounds false (a + n) e ps c.1.1 r.1 l in
      let f = field_length r.0 in
      record {
        few_blocks = omega (arith, b.few_blocks, f.1);
        few_bytes = omega (arith, b.few_bytes, f.0, length-append (written (field_by k (drop s input))) (recording_of input ps));
        few_entries = omega (arith, b.few_entries);
      }
  bounds false a e (span s n ∷ ps) c r l =
      let b = bounds true (a + n) e ps c.1.1 r.1 l in
      record { few_blocks = omega (arith, b.few_blocks); few_bytes = omega (arith, b.few_bytes); few_entries = omega (arith, b.few_entries) }
  bounds true a e (span s n ∷ ps) c r l = absurd l

  all_bounds : Bounded 0 (length input) 1 (pieces_of input)
  all_bounds = bounds false 0 (length input) (pieces_of input) searched.covers searched.right searched.longest

  pub bytes_suffice : length (recording_of input (pieces_of input)) ≤ length input + length input / 2772 * 3
  bytes_suffice = omega (arith, all_bounds.few_blocks, all_bounds.few_bytes)

  pub entries_suffice : length (pieces_of input) ≤ length input / 2772 * 2 + 1
  entries_suffice = omega (arith, all_bounds.few_blocks, all_bounds.few_entries)

report_numbers : (input : List ℕ) (ps : List Piece) → length (report_of input ps) ≡ length ps * 3
unfolding report_of
report_numbers input [] = refl
report_numbers input (block s n k ∷ ps) = omega (arith, report_numbers input ps)
report_numbers input (span s n ∷ ps) = omega (arith, report_numbers input ps)

pub searches_once : SearchesOnce
searches_once = record { searched = searched; only = λ input ps b. only_pieces input b ps }

pub covers_once : CoversOnce
covers_once = covers_input

pub room_suffices : RoomSuffices
room_suffices = record { bytes = bytes_suffice; entries = entries_suffice; numbers = λ input. report_numbers input (pieces_of input) }
