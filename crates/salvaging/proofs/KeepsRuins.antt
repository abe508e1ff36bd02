-- A block is found where one of its copies is whole, and the copies that were altered are not taken for others; the blocks of a recording,
-- joined, are found as they are.
-- Assumes nothing.
use Prim.Native.Nat.{ℕ, ◌+◌, ◌≤◌, ◌<◌}
use mathlib.Core.Path.{◌≡◌, refl, sym, ap, ap₂, subst, ◌∙◌}
use mathlib.Core.Logic.{inl, inr, ⊎_elim}
use mathlib.Core.Bool.{Bool, true, false}
use mathlib.Core.List.{List, [], ◌∷◌, ◌++◌, append_assoc}
use native.Mathlib.Omega.{arith}
use lib.Dec.{lit<, ltb}
use lib.ListN.{length, take, drop, length-append, length-drop}
use lib.Seq.{take-add, take_at, drop-drop, drop-append-le, take-append-le, drop-append_seam}
use borrow.Author.Tests.{ltb-true, ltb-false}
use Rattle.bits.specs.Bits.{Below}
use Rattle.bits.specs.Runs.{Altered}
use Rattle.bits.proofs.LawsBelow.{below_append, below_drop}
use Rattle.check_rule.specs.Check.{generator}
use Rattle.check_rule.specs.Finds.{Passes}
use Rattle.check_rule.proofs.LawsFinds.{our_check_finds_runs}
use Rattle.row.proofs.LawsField.{field_least}
use Rattle.copies.specs.Copies.{copy_length, copies_length, copy_at}
use Rattle.copies.specs.Agreed.{ThreeEqual}
use Rattle.copies.proofs.LawsAgreed.{each, copy_bytes}
use Rattle.block.specs.Meets.{Meets}
use Rattle.block.specs.Promises.{Accepted, Received}
use Rattle.block.proofs.KeepsReader.{accepts_exactly}
use Rattle.block.proofs.KeepsAltered.{changed_same}
use Rattle.recording.specs.Fields.{Field, joined}
use Rattle.made.specs.Promises.{MakesBlock}
use Rattle.made.proofs.KeepsMade.{makes_exactly, made_bytes}
use Rattle.salvaging.specs.Pieces.{copy_of, Piece, block, span, pieces_of, fields_of, recording_of}
use Rattle.salvaging.specs.Promises.{FirstCopy, Cover, Right, Longest, Kept, Each, Among, NoneOver, Restores, bodies, AgainSame}
use Rattle.salvaging.proofs.KeepsSearch.{order, no_start, first_copy, same_copy, searched, only_pieces}
use Rattle.salvaging.proofs.KeepsRecords.{kept, each_of}

-- ---- a block that lies in front of other bytes, its field as it was sent

module _ (one other behind c : List ℕ) (long : length other ≡ length one) (equal : ThreeEqual one c) (m : Meets one)
    (d : drop copies_length other ≡ drop copies_length one) where
  least : 2772 ≤ length one
  least = omega (arith, m.long, field_least m.number m.words)

  pub copy_passes : Passes generator c
  copy_passes = let g = m.agreed in subst (Passes generator) (sym g.there ∙ equal g.place g.within) g.passing

  pub copy_there : (j : ℕ) → j < 3 → copy_at j (other ++ behind) ≡ copy_at j other
  copy_there =
      each (λ (j : ℕ). copy_at j (other ++ behind) ≡ copy_at j other)
      (take-append-le copy_length other behind (omega (arith, long, least)))
      (ap (take copy_length) (drop-append-le copy_length other behind (omega (arith, long, least)))
      ∙ take-append-le copy_length (drop copy_length other) behind (omega (arith, long, least, length-drop copy_length other)))
      (ap (take copy_length) (drop-append-le 60 other behind (omega (arith, long, least)))
      ∙ take-append-le copy_length (drop 60 other) behind (omega (arith, long, least, length-drop 60 other)))

  front : take copies_length one ≡ c ++ (c ++ c)
  front =
      take-add copy_length 60 one
      ∙ ap₂ (λ (x y : List ℕ). x ++ y) (equal 0 (lit< tt))
      (take-add copy_length copy_length (drop copy_length one)
      ∙ ap₂ (λ (x y : List ℕ). x ++ y) (equal 1 (lit< tt)) (ap (take copy_length) (drop-drop copy_length copy_length one) ∙ equal 2 (lit< tt)))

  -- each whole copy makes it
  pub lies : (j : ℕ) → j < 3 → copy_at j other ≡ c → MakesBlock j (other ++ behind) one
  lies j h e =
      let there : copy_at j (other ++ behind) ≡ c = copy_there j h ∙ e in
      record {
        one = h;
        passing = subst (Passes generator) (sym there) copy_passes;
        inside = omega (arith, length-append other behind, long);
        copies = front ∙ (λ i. sym there i ++ (sym there i ++ sym there i));
        behind = sym d ∙ ap (drop copies_length) (sym (take_at other behind (length one) long));
        meets = m;
      }

-- ---- where no lower block reaches over it, it is among the pieces

module _ (input : List ℕ) (bytes : Below 256 input) where
  reached : (a e s n k : ℕ) (ps : List Piece) → Cover a ps e → Right input ps → a ≤ s → s < e → FirstCopy input s n k → NoneOver ps s → Among (block s n k) ps
  unfolding Cover Right Among
  reached a e s n k [] c r l h f o = absurd (omega arith)
  reached a e s n k (block s' n' k' ∷ ps) c r l h f o =
      ⊎_elim
      (λ x. inr (reached (a + n') e s n k ps c.1.1 r.1 (let y = o s' n' k' (inl refl) (omega (arith, c.0)) in omega (arith, c.0, y)) h f (λ i m j q. o i m j (inr q))))
      (⊎_elim
      (λ x. let u = same_copy input bytes f (subst (λ (i : ℕ). FirstCopy input i n' k') (c.0 ∙ x) r.0) in inl (λ i. block (sym (c.0 ∙ x) i) (u.1 i) (u.0 i)))
      (λ x. absurd (omega arith)))
      (order a s)
  reached a e s n k (span s' n' ∷ ps) c r l h f o =
      inr (reached (a + n') e s n k ps c.1.1 r.1 (over (ltb s (a + n')) refl) h f (λ i m j q. o i m j (inr q)))
    where
      over : (t : Bool) → ltb s (a + n') ≡ t → a + n' ≤ s
      over true t = let x = ltb-true s (a + n') t in absurd (r.0 s k f.block (omega (arith, c.0)) (omega (arith, c.0)) f.makes)
      over false t = ltb-false s (a + n') t

-- ---- copies in ruins

module _ (before one other behind c : List ℕ) (bytes : Below 256 (before ++ (other ++ behind))) (r : Received (Altered 16) one other c)
    (a : Accepted one 21008) (d : drop 90 other ≡ drop 90 one) where
  abbrev input : List ℕ
  input = before ++ (other ++ behind)

  abbrev s : ℕ
  s = length before

  abbrev m : Meets one
  m = (accepts_exactly.only one 21008 r.bytes a).0

  rest_is : drop s input ≡ other ++ behind
  rest_is = drop-append_seam before (other ++ behind)

  -- a copy that passes is the one that was sent
  passing_same : (k : ℕ) → k < 3 → Passes generator (copy_at k other) → copy_at k other ≡ c
  passing_same k h p =
      ⊎_elim (λ e. e)
      (λ x. changed_same (Altered 16) our_check_finds_runs c (copy_at k other) (subst (Below 256) (r.equal 0 (lit< tt)) (copy_bytes one r.bytes 0)) x
      (copy_passes one other behind c r.long r.equal m d) p)
      (r.each k h)

  makes_one : (k : ℕ) → k < 3 → copy_at k other ≡ c → MakesBlock k (drop s input) one
  makes_one k h e = subst (λ (x : List ℕ). MakesBlock k x one) (sym rest_is) (lies one other behind c r.long r.equal m d k h e)

  has_block : copy_of (drop s input) < 3
  has_block = by (ltb (copy_of (drop s input)) 3) refl
    where
      by : (t : Bool) → ltb (copy_of (drop s input)) 3 ≡ t → copy_of (drop s input) < 3
      by true t = ltb-true (copy_of (drop s input)) 3 t
      by false t = absurd (no_start input bytes s r.place one (ltb-false (copy_of (drop s input)) 3 t) (makes_one r.place r.within r.whole))

  first_one : FirstCopy input s (length one) (copy_of (drop s input))
  first_one =
      let f = first_copy input bytes s has_block in
      let k = copy_of (drop s input) in
      let p : Passes generator (copy_at k other) =
      subst (Passes generator) (ap (copy_at k) rest_is ∙ copy_there one other behind c r.long r.equal m d k f.makes.one) f.makes.passing in
      record { block = one; makes = makes_one k f.makes.one (passing_same k f.makes.one p); long = refl; first = f.first }

pub restores : Restores
unfolding first_one
restores before one other behind c bytes r a d over =
    let input : List ℕ = before ++ (other ++ behind) in
    let f = first_one before one other behind c bytes r a d in
    let z = searched input bytes in
    let l : length before < length input = omega (arith, f.makes.inside, makes_exactly.least _ _ _ f.makes, length-drop (length before) input) in (
      copy_of (drop (length before) input),
      (reached input bytes 0 (length input) (length before) (length one) _ (pieces_of input) z.covers z.right (omega arith) l f over, f.makes),
    )

-- ---- the blocks of a recording, joined

record Good (f : Field) : Type 0 where
  fits : Kept f
  below : Below 256 f.body

unfoldable placed : ℕ → List Field → List Piece
placed a [] = []
placed a (f ∷ fs) = block a (length f.body) 0 ∷ placed (a + length f.body) fs

bodies_below : (fs : List Field) → Each Good fs → Below 256 (bodies fs)
unfolding Each bodies
bodies_below [] g = tt
bodies_below (f ∷ fs) g = below_append 256 f.body (bodies fs) g.0.below (bodies_below fs g.1)

record Again (pre : List ℕ) (fs : List Field) : Type 0 where
  covers : Cover (length pre) (placed (length pre) fs) (length (pre ++ bodies fs))
  right : Right (pre ++ bodies fs) (placed (length pre) fs)
  longest : Longest false (placed (length pre) fs)
  same : fields_of (pre ++ bodies fs) (placed (length pre) fs) ≡ fs

again : (pre : List ℕ) (fs : List Field) → Each Good fs → Again pre fs
unfolding Each bodies placed Cover Right Longest fields_of
again pre [] g = record { covers = omega (arith, length-append pre []); right = tt; longest = tt; same = refl }
again pre (f ∷ fs) g =
    let b : List ℕ = f.body in
    let whole : List ℕ = pre ++ (b ++ bodies fs) in
    let st = g.0.fits.stands in
    let joins : (pre ++ b) ++ bodies fs ≡ whole = append_assoc pre b (bodies fs) in
    let at : length (pre ++ b) ≡ length pre + length b = length-append pre b in
    let x = again (pre ++ b) fs g.1 in
    let rest : drop (length pre) whole ≡ b ++ bodies fs = drop-append_seam pre (b ++ bodies fs) in
    let there : MakesBlock 0 (drop (length pre) whole) b =
    subst (λ (y : List ℕ). MakesBlock 0 y b) (sym rest) (lies b b (bodies fs) st.copy refl st.equal st.meets refl 0 (lit< tt) (st.equal 0 (lit< tt))) in
    let under : Below 256 (drop (length pre) whole) =
    subst (Below 256) (sym rest) (below_append 256 b (bodies fs) g.0.below (bodies_below fs g.1)) in
    record {
      covers = (
        refl,
        (
          omega (arith, makes_exactly.least 0 (drop (length pre) whole) b there),
          subst (λ (y : List ℕ). Cover (length pre + length b) (placed (length pre + length b) fs) (length y)) joins
              (subst (λ (a : ℕ). Cover a (placed a fs) (length ((pre ++ b) ++ bodies fs))) at x.covers),
        ),
      );
      right = (
        record { block = b; makes = there; long = refl; first = λ j _ l _. absurd (omega arith) },
        subst (λ (y : List ℕ). Right y (placed (length pre + length b) fs)) joins (subst (λ (a : ℕ). Right ((pre ++ b) ++ bodies fs) (placed a fs)) at x.right),
      );
      longest = subst (λ (a : ℕ). Longest false (placed a fs)) at x.longest;
      same =
          ap₂ (λ (p : Field) (ps : List Field). p ∷ ps)
          (λ i. record { tag = sym g.0.fits.tag i; body = sym (makes_exactly.only 0 (drop (length pre) whole) b under there).1 i })
          (subst (λ (y : List ℕ). fields_of y (placed (length pre + length b) fs) ≡ fs) joins
          (subst (λ (a : ℕ). fields_of ((pre ++ b) ++ bodies fs) (placed a fs) ≡ fs) at x.same));
    }

pub again_same : AgainSame
again_same input bytes =
    let fs = fields_of input (pieces_of input) in
    let good : Each Good fs =
    each_of input bytes Good (λ s n k f. record { fits = kept input bytes f; below = made_bytes k (drop s input) (below_drop 256 s input bytes) }) (pieces_of input) (searched input bytes).right in
    let x = again [] fs good in
    let only : placed 0 fs ≡ pieces_of (bodies fs) =
    only_pieces (bodies fs) (bodies_below fs good) (placed 0 fs) (record { covers = x.covers; right = x.right; longest = x.longest }) in
    ap (λ (ps : List Piece). recording_of (bodies fs) ps) (sym only) ∙ ap joined x.same
