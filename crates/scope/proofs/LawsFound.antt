-- The search as these statements have it, and as the promises of `salvaging` have it: each gives the other.
-- Assumes nothing.
use Prim.Native.Nat.{ℕ, ◌+◌, ◌-◌, ◌*◌, ◌≤◌, ◌<◌}
use mathlib.Core.Path.{◌≡◌, refl, sym, ap, ◌∙◌, subst}
use mathlib.Core.Logic.{◌⊎◌, inl, inr, ⊎_elim}
use mathlib.Core.Bool.{Bool, true, false}
use mathlib.Core.List.{List, [], ◌∷◌, ◌++◌}
use native.Mathlib.Omega.{arith}
use lib.Dec.{ltb}
use lib.ListN.{length, take, drop, length-drop}
use lib.Seq.{drop-drop}
use borrow.Author.Tests.{ltb-true, ltb-false}
use Rattle.bits.specs.Bits.{Below}
use Rattle.bits.proofs.LawsBelow.{below_drop}
use Rattle.check_rule.specs.Check.{generator}
use Rattle.check_rule.specs.Finds.{Passes}
use Rattle.copies.specs.Copies.{copy_at}
use Rattle.made.specs.Made.{made}
use Rattle.made.specs.Promises.{MakesBlock}
use Rattle.made.proofs.KeepsMade.{makes_exactly}
use Rattle.salvaging.specs.Pieces as pieces
use Rattle.salvaging.specs.Pieces.{Piece, pieces_of}
use Rattle.salvaging.specs.Promises.{FirstCopy, NoStart, Cover, Right, Longest}
use Rattle.salvaging.proofs.LawsWrites.{drop_take}
use Rattle.salvaging.proofs.KeepsSearch.{searched, only_pieces}
use Rattle.scope.specs.Salvage.{copy_from, Makes, Found, block, span, Skips, nothing, some, Search, hit, over}
use Rattle.scope.proofs.LawsFormat.{agrees_passes, passes_agrees}
use Rattle.scope.proofs.KeepsDemands.{meets_block, block_meets}

-- ---- a start with a block

pub copy_is : (input : List ℕ) (s k : ℕ) → 1 ≤ k → copy_at (k - 1) (drop s input) ≡ copy_from input s k
copy_is input s k l =
    let e : s + (k - 1) * 30 ≡ s + 30 * (k - 1) = omega arith in
    ap (take 30) (drop-drop ((k - 1) * 30) s input) ∙ ap (λ (n : ℕ). take 30 (drop n input)) e

module _ (input : List ℕ) where
  -- a start's block, as both have it
  pub makes_block : (s k : ℕ) (b : List ℕ) → Makes input s k b → MakesBlock (k - 1) (drop s input) b
  makes_block s k b m =
      let e = copy_is input s k m.least in
      record {
        one = omega (arith, m.least, m.most);
        passing = subst (Passes generator) (sym e) (agrees_passes m.passes);
        inside = omega (arith, m.inside, length-drop s input);
        copies = m.copies ∙ (λ i. sym e i ++ (sym e i ++ sym e i));
        behind = m.behind ∙ sym (behind_is s b (omega (arith, m.meets.long)) m.inside);
        meets = meets_block m.meets;
      }
    where
      behind_is : (s : ℕ) (b : List ℕ) → 90 ≤ length b → s + length b ≤ length input → drop 90 (take (length b) (drop s input)) ≡ take (length b - 90) (drop (s + 90) input)
      behind_is s b l h = drop_take 90 (length b) (drop s input) l (omega (arith, length-drop s input)) ∙ ap (take (length b - 90)) (drop-drop 90 s input)

  pub block_makes : (s k : ℕ) (b : List ℕ) → MakesBlock k (drop s input) b → Makes input s (k + 1) b
  block_makes s k b m =
      let long = makes_exactly.least k (drop s input) b m in
      let k-is : k + 1 - 1 ≡ k = omega arith in
      let e : copy_at k (drop s input) ≡ copy_from input s (k + 1) = ap (λ (j : ℕ). copy_at j (drop s input)) (sym k-is) ∙ copy_is input s (k + 1) (omega arith) in
      record {
        least = omega arith;
        most = omega (arith, m.one);
        passes = passes_agrees (subst (Passes generator) e m.passing);
        inside = omega (arith, m.inside, length-drop s input, long);
        copies = m.copies ∙ (λ i. e i ++ (e i ++ e i));
        behind = m.behind ∙ drop_take 90 (length b) (drop s input) (omega (arith, long)) m.inside ∙ ap (take (length b - 90)) (drop-drop 90 s input);
        meets = block_meets m.meets;
      }

  long_enough : (s k : ℕ) (b : List ℕ) → Makes input s k b → 92 ≤ length b
  long_enough s k b m = omega (arith, m.meets.long)

-- ---- from these finds to the pieces of `salvaging`, and back

unfoldable pub to_pieces : List Found → List Piece
to_pieces [] = []
to_pieces (block s k b ∷ fs) = pieces.block s (length b) (k - 1) ∷ to_pieces fs
to_pieces (span s n ∷ fs) = pieces.span s n ∷ to_pieces fs

abbrev pub as_found : List ℕ → Piece → Found
as_found input (pieces.block s n k) = block s (k + 1) (made k (drop s input))
as_found input (pieces.span s n) = span s n

unfoldable pub to_founds : List ℕ → List Piece → List Found
to_founds input [] = []
to_founds input (p ∷ ps) = as_found input p ∷ to_founds input ps

module _ (input : List ℕ) (bytes : Below 256 input) where
  pub below : (s : ℕ) → Below 256 (drop s input)
  below s = below_drop 256 s input bytes

  record Sound (from : ℕ) (fs : List Found) : Type 0 where
    covers : Cover from (to_pieces fs) (length input)
    right : Right input (to_pieces fs)
    longest : Longest false (to_pieces fs)

  first_copy : (s k : ℕ) (b : List ℕ) → Makes input s k b → ((j : ℕ) (d : List ℕ) → j < k → Makes input s j d → ⊥) → FirstCopy input s (length b) (k - 1)
  first_copy s k b m f =
      record {
        block = b;
        makes = makes_block input s k b m;
        long = refl;
        first = λ j d l x. f (j + 1) d (omega arith) (block_makes input s j d x);
      }

  no_start : (from to : ℕ) → ((i j : ℕ) (d : List ℕ) → from ≤ i → i < to → Makes input i j d → ⊥) → from ≤ to → NoStart input from (to - from)
  no_start from to f l i k d x y m = f i (k + 1) d x (omega arith) (block_makes input i k d m)

  skips_sound : (from to : ℕ) (fs gs : List Found) → from ≤ to → ((i j : ℕ) (d : List ℕ) → from ≤ i → i < to → Makes input i j d → ⊥) → Skips from to fs gs
      → Cover to (to_pieces fs) (length input) → Right input (to_pieces fs) → Longest true (to_pieces fs) → Longest false (to_pieces fs) → Sound from gs
  unfolding to_pieces Cover Right Longest
  skips_sound from to fs gs l f (nothing e) c r t u = record { covers = subst (λ (a : ℕ). Cover a (to_pieces fs) (length input)) (sym e) c; right = r; longest = u }
  skips_sound from to fs gs l f (some h) c r t u =
      let q : to ≡ from + (to - from) = omega arith in
      record {
        covers = (refl, (omega arith, subst (λ (a : ℕ). Cover a (to_pieces fs) (length input)) q c));
        right = (no_start from to f l, r);
        longest = t;
      }

  search_sound : (from : ℕ) (gs : List Found) → from ≤ length input → Search input from gs → Sound from gs
  unfolding to_pieces Cover Right Longest
  search_sound from gs w (hit {fs} s k b l none m f rest skip) =
      let x = search_sound (s + length b) fs m.inside rest in
      skips_sound from s (block s k b ∷ fs) gs l none skip
      (refl, (omega (arith, long_enough input s k b m), x.covers)) (first_copy s k b m f, x.right) x.longest x.longest
  search_sound from gs w (over none skip) =
      skips_sound from (length input) [] gs w (λ i j d x y. none i j d x) skip refl tt tt tt

  -- the finds of a search are settled by its pieces
  skips_back : {from to : ℕ} {fs gs : List Found} → Skips from to fs gs → fs ≡ to_founds input (to_pieces fs) → gs ≡ to_founds input (to_pieces gs)
  unfolding to_pieces to_founds
  skips_back (nothing e) h = h
  skips_back {from} {to} (some l) h = ap (λ (x : List Found). span from (to - from) ∷ x) h

  search_back : (from : ℕ) (gs : List Found) → Search input from gs → gs ≡ to_founds input (to_pieces gs)
  unfolding to_pieces to_founds
  search_back from gs (hit {fs} s k b l none m f rest skip) =
      let k-is : k ≡ k - 1 + 1 = omega (arith, m.least) in
      let b-is : b ≡ made (k - 1) (drop s input) = (makes_exactly.only (k - 1) (drop s input) b (below s) (makes_block input s k b m)).1 in
      let rest_is = search_back (s + length b) fs rest in
      skips_back skip (λ i. block s (k-is i) (b-is i) ∷ rest_is i)
  search_back from gs (over none skip) = skips_back skip refl

  pub canonical : (fs : List Found) → Search input 0 fs → fs ≡ to_founds input (pieces_of input)
  canonical fs s =
      let x = search_sound 0 fs (omega arith) s in
      search_back 0 fs s
      ∙ ap (to_founds input) (only_pieces input bytes (to_pieces fs) (record { covers = x.covers; right = x.right; longest = x.longest }))

  -- ---- there is one

  -- no start has a block that is behind the input's end
  none_behind : (i k : ℕ) (d : List ℕ) → length input ≤ i → Makes input i k d → ⊥
  none_behind i k d l m = omega (arith, m.inside, long_enough input i k d m)

  module _ (s n k : ℕ) (f : FirstCopy input s n k) where
    pub made_is : f.block ≡ made k (drop s input)
    made_is = (makes_exactly.only k (drop s input) f.block (below s) f.makes).1

    pub n_is : n ≡ length (made k (drop s input))
    n_is = f.long ∙ ap length made_is

    pub makes_it : Makes input s (k + 1) (made k (drop s input))
    makes_it = block_makes input s k (made k (drop s input)) (subst (MakesBlock k (drop s input)) made_is f.makes)

    first_it : (j : ℕ) (d : List ℕ) → j < k + 1 → Makes input s j d → ⊥
    first_it j d l m = f.first (j - 1) d (omega (arith, m.least)) (makes_block input s j d m)

    -- with nothing found from `from` on before it, and what is found behind it
    found_there : (from : ℕ) (ps : List Piece) → from ≤ s → ((i j : ℕ) (d : List ℕ) → from ≤ i → i < s → Makes input i j d → ⊥)
        → Search input (s + n) (to_founds input ps) → (gs : List Found) → Skips from s (block s (k + 1) (made k (drop s input)) ∷ to_founds input ps) gs → Search input from gs
    found_there from ps l none rest gs skip =
        hit s (k + 1) (made k (drop s input)) l none makes_it first_it (subst (λ (m : ℕ). Search input (s + m) (to_founds input ps)) n_is rest) skip

  exists : (a : ℕ) (ps : List Piece) → Cover a ps (length input) → Right input ps → Longest false ps → Search input a (to_founds input ps)
  unfolding to_founds Cover Right Longest
  exists a [] c r l =
      let none : (i j : ℕ) (d : List ℕ) → a ≤ i → Makes input i j d → ⊥ = λ i j d x m. none_behind i j d (omega (arith, c)) m in
      over none (nothing c)
  exists a (pieces.block s n k ∷ ps) c r l =
      found_there s n k r.0 a ps (omega (arith, c.0)) (λ i j d x y m. omega (arith, c.0))
      (exists (s + n) ps (subst (λ (x : ℕ). Cover (x + n) ps (length input)) (sym c.0) c.1.1) r.1 l) _ (nothing (sym c.0))
  exists a (pieces.span s n ∷ []) c r l =
      let e : length input - a ≡ n = omega (arith, c.1.1) in
      subst (λ (g : List Found). Search input a g) (λ i. span (sym c.0 i) (e i) ∷ [])
      (over (λ i j d x m. beyond i j d x m) (some (omega (arith, c.1.1))))
    where
      beyond : (i j : ℕ) (d : List ℕ) → a ≤ i → Makes input i j d → ⊥
      beyond i j d x m =
          ⊎_elim (λ h. r.0 i (j - 1) d (omega (arith, c.0)) (omega (arith, c.0)) (makes_block input i j d m)) (λ h. none_behind i j d (omega (arith, c.1.1)) m) (by (ltb i (a + n)) refl)
        where
          by : (t : Bool) → ltb i (a + n) ≡ t → (i < a + n) ⊎ (a + n ≤ i)
          by true t = inl (ltb-true i (a + n) t)
          by false t = inr (ltb-false i (a + n) t)
  exists a (pieces.span s n ∷ pieces.block s' n' k ∷ ps) c r l =
      let e : s' - a ≡ n = omega (arith, c.1.1.0) in
      subst (λ (g : List Found). Search input a g)
      (λ i. span (sym c.0 i) (e i) ∷ (block s' (k + 1) (made k (drop s' input)) ∷ to_founds input ps))
      (found_there s' n' k r.1.0 a ps (omega (arith, c.1.1.0)) (λ i j d x y m. r.0 i (j - 1) d (omega (arith, c.0)) (omega (arith, c.0, c.1.1.0)) (makes_block input i j d m))
      (exists (s' + n') ps (subst (λ (x : ℕ). Cover (x + n') ps (length input)) (sym c.1.1.0) c.1.1.1.1) r.1.1 l) _ (some (omega (arith, c.1.0, c.1.1.0))))
  exists a (pieces.span s n ∷ pieces.span s' n' ∷ ps) c r l = absurd l

  pub one_search : Search input 0 (to_founds input (pieces_of input))
  one_search = let x = searched input bytes in exists 0 (pieces_of input) x.covers x.right x.longest
