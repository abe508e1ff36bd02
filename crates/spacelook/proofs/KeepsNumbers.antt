-- The numbers of a spacelook block stand where they are promised: each row of the tables, by field and index and among all.
-- Assumes nothing.
use mathlib.Core.Path.{◌≡◌, refl, sym, ap, ap₂, ◌∙◌, subst}
use mathlib.Core.Logic.{◌⊎◌, inl, inr}
use mathlib.Core.List.{List, ◌∷◌, ◌++◌, map}
use Prim.Native.Nat.{ℕ, suc, ◌+◌, ◌-◌, ◌*◌, ◌≤◌, ◌<◌}
use native.Mathlib.Omega.{arith}
use lib.Dec.{T, ltb, ltb→lt}
use lib.Ieee.{Float}
use lib.ListN.{length, get_or, take, drop, take-append-drop, length-map}
use lib.Seq.{get_or-append-add, drop-cons}
use Rattle.parity.specs.declared.Layout.{Layout}
use Rattle.parity.specs.declared.Layout.TheVariants.{ImagerSpacelook, SounderSpacelook}
use Rattle.floating.specs.Floating.{reading_of}
use Rattle.floating.specs.Cases.{case_of, value_of}
use Rattle.floating.specs.declared.Reading.{Reading}
use Rattle.floating.specs.declared.Reading.TheVariants.{Zero}
use Rattle.spacelook.specs.declared.Array.{Array}
use Rattle.spacelook.specs.Found.{Read}
use Rattle.spacelook.specs.Arrays.{◌holds◌, count_of, arrays_in, no_array, row_of, numbers_in}
use Rattle.spacelook.specs.Numbers.{word_at, number_at, readings_in, joined, all_of}
use Rattle.spacelook.specs.Promises.{number_from, Reads, NoMore, Imager, Sounder, Told, Behind, Filling}
use Rattle.spacelook.proofs.LawsArrays.{no_field, no_more_fields}
use Rattle.spacelook.proofs.LawsFound.{refused, not_there, there, leaves, gives}
use Rattle.spacelook.proofs.LawsNumbers.{length_joined, joined_more, reading_among}

-- ---- four words

joined_bytes : (a b c d : ℕ) → (a * 256 + b) * 65536 + (c * 256 + d) ≡ a * 0x1000000 + b * 0x10000 + c * 0x100 + d
joined_bytes a b c d = omega arith

four_words : (ws : List ℕ) (k : ℕ) → reading_of (word_at ws k) ≡ number_from ws k
four_words ws k =
    let w : ℕ → ℕ = (λ n. get_or ws n 0) in
    let second : k + 1 - 1 ≡ k = omega arith in
    let third : k + 2 - 1 ≡ k + 1 = omega arith in
    let fourth : k + 2 + 1 - 1 ≡ k + 2 = omega arith in
    ap reading_of
    (joined_bytes (w (k - 1)) (w (k + 1 - 1)) (w (k + 2 - 1)) (w (k + 2 + 1 - 1))
    ∙ ap (λ (n : ℕ). w (k - 1) * 0x1000000 + w n * 0x10000 + w (k + 2 - 1) * 0x100 + w (k + 2 + 1 - 1)) second
    ∙ ap (λ (n : ℕ). w (k - 1) * 0x1000000 + w k * 0x10000 + w n * 0x100 + w (k + 2 + 1 - 1)) third
    ∙ ap (λ (n : ℕ). w (k - 1) * 0x1000000 + w k * 0x10000 + w (k + 1) * 0x100 + w n) fourth)

-- ---- a row of the table

module _ (layout : Layout) (k : ℕ) where
  abbrev before : List Array
  before = take k (arrays_in layout)

  split : k < length (arrays_in layout) → arrays_in layout ≡ before ++ (get_or (arrays_in layout) k no_array ∷ drop (suc k) (arrays_in layout))
  split h =
      sym (take-append-drop k (arrays_in layout))
      ∙ ap (λ (l : List Array). before ++ l) (drop-cons (arrays_in layout) k no_array h)

  row_is : row_of layout (suc k) ≡ get_or (arrays_in layout) k no_array
  unfolding row_of
  row_is = refl

  among : (ws : List ℕ) (i : ℕ) → k < length (arrays_in layout) → i < count_of (get_or (arrays_in layout) k no_array)
      → get_or (all_of layout ws) (numbers_in before + i) Zero ≡ number_at ws (get_or (arrays_in layout) k no_array) i
  unfolding joined
  among ws i h l =
      let a = get_or (arrays_in layout) k no_array in
      let rest = joined ws (drop (suc k) (arrays_in layout)) in
      ap (λ (r : List Array). get_or (joined ws r) (numbers_in before + i) Zero) (split h)
      ∙ ap (λ (r : List Reading). get_or r (numbers_in before + i) Zero) (joined_more ws before (a ∷ drop (suc k) (arrays_in layout)))
      ∙ ap (λ (n : ℕ). get_or (joined ws before ++ (readings_in ws a ++ rest)) (n + i) Zero) (sym (length_joined ws before))
      ∙ get_or-append-add (joined ws before) (readings_in ws a ++ rest) i Zero
      ∙ reading_among ws a rest i Zero l

  pub row : {first count start : ℕ} → T (ltb k (length (arrays_in layout))) → first holds count ≡ get_or (arrays_in layout) k no_array → start ≡ numbers_in before
      → Reads layout (suc k) first count start
  row {first} {count} {start} t e f =
      let h = ltb→lt k (length (arrays_in layout)) t in
      let is : row_of layout (suc k) ≡ first holds count = row_is ∙ sym e in record {
        there = λ ws i good l.
            sym (there layout ws (suc k) i good (subst (λ (a : Array). i < count_of a) (sym is) l))
            ∙ ap (λ (a : Array). Read (number_at ws a i)) is
            ∙ ap Read (four_words ws (first + 4 * i));
        not_there = λ ws i good l. sym (not_there layout ws (suc k) i good (subst (λ (a : Array). count_of a ≤ i) (sym is) l));
        among = λ ws i l.
            ap (λ (n : ℕ). get_or (all_of layout ws) (n + i) Zero) f
            ∙ among ws i h (subst (λ (a : Array). i < count_of a) e l)
            ∙ ap (λ (a : Array). number_at ws a i) (sym e)
            ∙ four_words ws (first + 4 * i);
      }

-- a field 0, or one behind the last
no_more : (layout : Layout) → NoMore layout (length (arrays_in layout))
no_more layout ws field i good h = sym (not_there layout ws field i good (subst (λ (a : Array). count_of a ≤ i) (sym (none h)) (omega arith)))
  where
    none : (field < 1) ⊎ (length (arrays_in layout) < field) → row_of layout field ≡ no_array
    none (inl l) = let e : field ≡ 0 = omega arith in ap (row_of layout) e ∙ no_field layout
    none (inr l) = no_more_fields layout field l

pub imager : Imager
imager =
    record {
      umndoh = row ImagerSpacelook 0 tt refl refl;
      fmndoh = row ImagerSpacelook 1 tt refl refl;
      usddoh = row ImagerSpacelook 2 tt refl refl;
      fscdoh = row ImagerSpacelook 3 tt refl refl;
      fsrdoh = row ImagerSpacelook 4 tt refl refl;
      fstdh = row ImagerSpacelook 5 tt refl refl;
      umnodd = row ImagerSpacelook 6 tt refl refl;
      fmnodd = row ImagerSpacelook 7 tt refl refl;
      usdodd = row ImagerSpacelook 8 tt refl refl;
      fscodd = row ImagerSpacelook 9 tt refl refl;
      fsrodd = row ImagerSpacelook 10 tt refl refl;
      fstodd = row ImagerSpacelook 11 tt refl refl;
      idprm1 = row ImagerSpacelook 12 tt refl refl;
      idprm2 = row ImagerSpacelook 13 tt refl refl;
      idprm3 = row ImagerSpacelook 14 tt refl refl;
      idprm4 = row ImagerSpacelook 15 tt refl refl;
      idprm5 = row ImagerSpacelook 16 tt refl refl;
      idprm6 = row ImagerSpacelook 17 tt refl refl;
      idprm7 = row ImagerSpacelook 18 tt refl refl;
      idpom1 = row ImagerSpacelook 19 tt refl refl;
      idpom2 = row ImagerSpacelook 20 tt refl refl;
      idpom3 = row ImagerSpacelook 21 tt refl refl;
      idpom4 = row ImagerSpacelook 22 tt refl refl;
      idpom5 = row ImagerSpacelook 23 tt refl refl;
      idpom6 = row ImagerSpacelook 24 tt refl refl;
      idpom7 = row ImagerSpacelook 25 tt refl refl;
      no_more = no_more ImagerSpacelook;
      all = λ ws. length_joined ws (arrays_in ImagerSpacelook);
    }

pub sounder : Sounder
sounder =
    record {
      ufmev = row SounderSpacelook 0 tt refl refl;
      fmev = row SounderSpacelook 1 tt refl refl;
      ufsdv = row SounderSpacelook 2 tt refl refl;
      fsdv = row SounderSpacelook 3 tt refl refl;
      fsrv = row SounderSpacelook 4 tt refl refl;
      fstv = row SounderSpacelook 5 tt refl refl;
      no_more = no_more SounderSpacelook;
      all = λ ws. length_joined ws (arrays_in SounderSpacelook);
    }

-- ---- refusals

pub told : Told
told r = (refl, refl, refl)

pub behind : Behind
behind layout ws field i h = sym (refused layout ws field i h)

pub filling : (layout : Layout) (ws : List ℕ) (numbers : List Float) (cases : List ℕ) → Filling layout ws numbers cases
filling layout ws numbers cases =
    record {
      refused = λ h. let left = leaves layout ws numbers cases refl h in (sym left.0, sym left.1.0, sym left.1.1);
      accepted = λ h.
          let left = gives layout ws numbers cases refl h in
          let n = length_joined ws (arrays_in layout) in (
            sym left.0 ∙ ap₂ (λ (m c : ℕ). record { number = m; count = c }) h (sym n),
            sym left.1.0 ∙ ap (λ (c : ℕ). map value_of (all_of layout ws) ++ drop c numbers) (length-map (all_of layout ws) value_of),
            sym left.1.1 ∙ ap (λ (c : ℕ). map case_of (all_of layout ws) ++ drop c cases) (length-map (all_of layout ws) case_of),
          );
    }
