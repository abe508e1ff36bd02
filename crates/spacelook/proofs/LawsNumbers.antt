-- Numbers one behind the other: those of an array, those of the first arrays of a layout, and a room that has them at its front.
-- Assumes nothing.
use mathlib.Core.Path.{◌≡◌, refl, sym, ap, ap₂, ◌∙◌, subst}
use mathlib.Core.Bool.{Bool, true, false}
use mathlib.Core.List.{List, [], ◌∷◌, ◌++◌, map, map-append, append-nil, append_assoc}
use Prim.Native.Nat.{ℕ, zero, suc, ◌+◌, ◌≤◌, ◌<◌}
use native.Mathlib.Nat.{add-zero, le_of_suc-le-suc, not-suc-le-zero}
use native.Mathlib.Numerals.{add-one}
use native.Mathlib.Omega.{arith}
use lib.Dec.{leb}
use lib.ListN.{length, get_or, take, drop, set, length-set, take-append-drop, length-append, length-map, get_or-append, get_or-map}
use lib.Seq.{paste, paste-zero, paste-suc, length-paste, take_at, take_all, drop-drop, drop_at, get_or_at}
use borrow.Author.Tests.{leb-true, leb-false}
use Rattle.parity.specs.declared.Layout.{Layout}
use Rattle.floating.specs.declared.Reading.{Reading}
use Rattle.spacelook.specs.declared.Array.{Array}
use Rattle.spacelook.specs.Arrays.{count_of, arrays_in, array_at, numbers_in, size_of}
use Rattle.spacelook.specs.Numbers.{number_at, up_to, readings_in, joined, all_of, front_of}
use Rattle.spacelook.proofs.LawsArrays.{one_more, numbers_joined}

-- ---- of an array

length_up_to : (n : ℕ) → length (up_to n) ≡ n
length_up_to zero = refl
length_up_to (suc n) = length-append (up_to n) (n ∷ []) ∙ omega (arith, length_up_to n)

up_to_at : (n k : ℕ) → k < n → get_or (up_to n) k 0 ≡ k
up_to_at zero k h = absurd (omega arith)
up_to_at (suc n) k h = by (leb n k) refl (up_to_at n k)
  where
    by : (t : Bool) → leb n k ≡ t → (k < n → get_or (up_to n) k 0 ≡ k) → get_or (up_to n ++ (n ∷ [])) k 0 ≡ k
    by true e before = let same : n ≡ k = omega (arith, leb-true n k e) in get_or_at (up_to n) n [] 0 k (length_up_to n ∙ same) ∙ same
    by false e before =
        let less : k < n = leb-false n k e in
        get_or-append (up_to n) (n ∷ []) 0 k (subst (λ (m : ℕ). k < m) (sym (length_up_to n)) less) ∙ before less

pub length_readings : (words : List ℕ) (a : Array) → length (readings_in words a) ≡ count_of a
length_readings words a = length-map (up_to (count_of a)) (number_at words a) ∙ length_up_to (count_of a)

-- where there is an element, it does not matter what stands for none
get_d_inside : {A : Type 0} (l : List A) (i : ℕ) (d d' : A) → i < length l → get_or l i d ≡ get_or l i d'
get_d_inside [] i d d' h = absurd (not-suc-le-zero h)
get_d_inside (x ∷ l) zero d d' h = refl
get_d_inside (x ∷ l) (suc i) d d' h = get_d_inside l i d d' (le_of_suc-le-suc h)

reading_at : (words : List ℕ) (a : Array) (k : ℕ) (none : Reading) → k < count_of a → get_or (readings_in words a) k none ≡ number_at words a k
reading_at words a k none h =
    get_d_inside (readings_in words a) k none (number_at words a 0) (subst (λ (n : ℕ). k < n) (sym (length_readings words a)) h)
    ∙ get_or-map (number_at words a) (up_to (count_of a)) k 0
    ∙ ap (number_at words a) (up_to_at (count_of a) k h)

-- and with more behind them
pub reading_among : (words : List ℕ) (a : Array) (rest : List Reading) (k : ℕ) (none : Reading) → k < count_of a
    → get_or (readings_in words a ++ rest) k none ≡ number_at words a k
reading_among words a rest k none h =
    get_or-append (readings_in words a) rest none k (subst (λ (n : ℕ). k < n) (sym (length_readings words a)) h) ∙ reading_at words a k none h

-- ---- of arrays

pub joined_more : (words : List ℕ) (l m : List Array) → joined words (l ++ m) ≡ joined words l ++ joined words m
unfolding joined
joined_more words [] m = refl
joined_more words (a ∷ l) m =
    ap (λ (r : List Reading). readings_in words a ++ r) (joined_more words l m) ∙ sym (append_assoc (readings_in words a) (joined words l) (joined words m))

pub length_joined : (words : List ℕ) (l : List Array) → length (joined words l) ≡ numbers_in l
unfolding joined
length_joined words [] = refl
length_joined words (a ∷ l) =
    length-append (readings_in words a) (joined words l) ∙ ap₂ (λ (x y : ℕ). x + y) (length_readings words a) (length_joined words l)

joined_one : (words : List ℕ) (a : Array) → joined words (a ∷ []) ≡ readings_in words a
unfolding joined
joined_one words a = append-nil (readings_in words a)

-- ---- a room

module _ {A : Type 0} where
  front_more : (xs ys room : List A) → length xs + length ys ≤ length room
      → paste (front_of xs room) (length xs) ys (length ys) ≡ front_of (xs ++ ys) room
  front_more xs ys room h =
      let behind : drop (length xs + length ys) (front_of xs room) ≡ drop (length xs + length ys) room =
      sym (drop-drop (length ys) (length xs) (front_of xs room))
      ∙ ap (drop (length ys)) (drop_at xs (drop (length xs) room) (length xs) refl)
      ∙ drop-drop (length ys) (length xs) room in
      ap₂ (λ (p q : List A). p ++ q ++ drop (length xs + length ys) (front_of xs room))
      (take_at xs (drop (length xs) room) (length xs) refl) (take_all (length ys) ys (omega arith))
      ∙ ap (λ (r : List A). xs ++ ys ++ r) behind
      ∙ ap (λ (n : ℕ). (xs ++ ys) ++ drop n room) (sym (length-append xs ys))

-- ---- what a loop leaves of the readings, by a rule for each: their values, or their cases

-- a room into which the first k of a list were laid, from a place on
pub record Laid {A : Type 0} (room₀ room : List A) (at : ℕ) (xs : List A) (k : ℕ) : Type 0 where
  pub same : length room ≡ length room₀
  pub is : room ≡ paste room₀ at xs k

pub none_laid : {A : Type 0} (room : List A) (at : ℕ) (xs : List A) → Laid room room at xs 0
none_laid room at xs = record { same = refl; is = paste-zero room at xs }

pub all_laid : {A : Type 0} {room₀ room : List A} {at k n : ℕ} {xs : List A} → Laid room₀ room at xs k → k ≡ n → room ≡ paste room₀ at xs n
all_laid {A} {room₀} {room} {at} {k} {n} {xs} laid e = laid.is ∙ ap (paste room₀ at xs) e

module _ {A : Type 0} (rule : Reading → A) (words : List ℕ) where
  -- number k of an array stored behind the ones before it
  array_turn : (a : Array) (room : List A) (at k : ℕ) → k < count_of a → at + k < length room
      → set (paste room at (map rule (readings_in words a)) k) (at + k) (rule (number_at words a k)) ≡ paste room at (map rule (readings_in words a)) (k + 1)
  array_turn a room at k h l =
      let xs = map rule (readings_in words a) in
      let there : k < length xs = subst (λ (n : ℕ). k < n) (sym (length-map (readings_in words a) rule ∙ length_readings words a)) h in
      let is : get_or xs k (rule (number_at words a 0)) ≡ rule (number_at words a k) =
      get_or-map rule (readings_in words a) k (number_at words a 0) ∙ ap rule (reading_at words a k (number_at words a 0) h) in
      ap (set (paste room at xs k) (at + k)) (sym is)
      ∙ paste-suc room at xs k (rule (number_at words a 0)) l there
      ∙ ap (paste room at xs) (sym (add-one k))

  pub one_laid : (a : Array) {room₀ room : List A} {at k : ℕ} {x : A} → Laid room₀ room at (map rule (readings_in words a)) k
      → k < count_of a → at + k < length room₀ → x ≡ rule (number_at words a k)
      → Laid room₀ (set room (at + k) x) at (map rule (readings_in words a)) (k + 1)
  one_laid a {room₀} {room} {at} {k} {x} before h l e =
      record {
        same = length-set room (at + k) x ∙ before.same;
        is = ap₂ (λ (r : List A) (y : A). set r (at + k) y) before.is e ∙ array_turn a room₀ at k h l;
      }

  length_all : (l : List Array) → length (map rule (joined words l)) ≡ numbers_in l
  length_all l = length-map (joined words l) rule ∙ length_joined words l

  more : (layout : Layout) (k : ℕ) → k < length (arrays_in layout)
      → map rule (joined words (take k (arrays_in layout))) ++ map rule (readings_in words (array_at layout k))
      ≡ map rule (joined words (take (k + 1) (arrays_in layout)))
  more layout k h =
      sym (map-append rule (joined words (take k (arrays_in layout))) (readings_in words (array_at layout k)))
      ∙ ap (λ (r : List Reading). map rule (joined words (take k (arrays_in layout)) ++ r)) (sym (joined_one words (array_at layout k)))
      ∙ ap (map rule) (sym (joined_more words (take k (arrays_in layout)) (array_at layout k ∷ [])))
      ∙ ap (λ (l : List Array). map rule (joined words l)) (sym (one_more layout k h))

  -- a room with the numbers of the first k arrays at its front
  pub record Fronted (layout : Layout) (room₀ room : List A) (k : ℕ) : Type 0 where
    pub same : length room ≡ length room₀
    pub is : room ≡ front_of (map rule (joined words (take k (arrays_in layout)))) room₀

  pub none_fronted : (layout : Layout) (room : List A) → Fronted layout room room 0
  unfolding joined
  none_fronted layout room = record { same = refl; is = refl }

  -- array k laid behind the ones before it
  pub one_fronted : (layout : Layout) {k : ℕ} {room₀ room room' : List A} {at : ℕ} {row : Array} → Fronted layout room₀ room k
      → k < length (arrays_in layout) → row ≡ array_at layout k → at ≡ numbers_in (take k (arrays_in layout)) → at + count_of row ≤ length room₀
      → room' ≡ paste room at (map rule (readings_in words row)) (count_of row) → Fronted layout room₀ room' (k + 1)
  one_fronted layout {k} {room₀} {room} {room'} {at} {row} before h is_row e fits laid =
      let xs = map rule (joined words (take k (arrays_in layout))) in
      let ys = map rule (readings_in words row) in
      let lx : at ≡ length xs = e ∙ sym (length_all (take k (arrays_in layout))) in
      let ly : count_of row ≡ length ys = sym (length-map (readings_in words row) rule ∙ length_readings words row) in
      record {
        same = ap length laid ∙ length-paste room at ys (count_of row) (omega (arith, before.same)) (omega arith) ∙ before.same;
        is =
            laid
            ∙ ap (λ (r : List A). paste r at ys (count_of row)) before.is
            ∙ ap₂ (λ (m n : ℕ). paste (front_of xs room₀) m ys n) lx ly
            ∙ front_more xs ys room₀ (subst (λ (n : ℕ). n ≤ length room₀) (ap₂ (λ (m n : ℕ). m + n) lx ly) fits)
            ∙ ap (λ (a : Array). front_of (xs ++ map rule (readings_in words a)) room₀) is_row
            ∙ ap (λ (zs : List A). front_of zs room₀) (more layout k h);
      }

  pub all_fronted : (layout : Layout) {k : ℕ} {room₀ room : List A} → Fronted layout room₀ room k → length (arrays_in layout) ≤ k
      → room ≡ front_of (map rule (all_of layout words)) room₀
  all_fronted layout {k} {room₀} before h = before.is ∙ ap (λ (l : List Array). front_of (map rule (joined words l)) room₀) (take_all k (arrays_in layout) h)

-- the numbers of the first k + 1 arrays, which are not more than all
module _ (layout : Layout) {k at : ℕ} {row : Array} (h : k < length (arrays_in layout)) (is_row : row ≡ array_at layout k)
    (e : at ≡ numbers_in (take k (arrays_in layout))) where
  pub numbers_more : at + count_of row ≡ numbers_in (take (k + 1) (arrays_in layout))
  numbers_more =
      ap₂ (λ (n : ℕ) (a : Array). n + count_of a) e is_row
      ∙ sym (ap numbers_in (one_more layout k h)
      ∙ numbers_joined (take k (arrays_in layout)) (array_at layout k ∷ [])
      ∙ ap (λ (n : ℕ). numbers_in (take k (arrays_in layout)) + n) (add-zero (count_of (array_at layout k))))

  pub room_for_one : (n : ℕ) → (size_of layout).1 ≤ n → at + count_of row ≤ n
  room_for_one n room =
      let rest = drop (k + 1) (arrays_in layout) in
      let all : (size_of layout).1 ≡ numbers_in (take (k + 1) (arrays_in layout)) + numbers_in rest =
      sym (ap numbers_in (take-append-drop (k + 1) (arrays_in layout))) ∙ numbers_joined (take (k + 1) (arrays_in layout)) rest in
      omega (arith, numbers_more)
