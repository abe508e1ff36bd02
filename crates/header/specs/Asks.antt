-- What a header asks for, said as Table 3-5 of 504-02 prints it.
-- Assumes nothing.
use Rattle.std.specs.Prelude.{ℕ, ◌+◌, ◌*◌, ◌≤◌, ◌≡◌, List}
use Rattle.row.specs.Suits.{Suits}
use Rattle.header.specs.Says.{word}

-- the number of a block id: 240 is block 0, 1 to 11 are themselves
pub data IsBlock : (id block : ℕ) → Type 0 where
  zeroth : IsBlock 240 0
  itself : (n : ℕ) → 1 ≤ n → n ≤ 11 → IsBlock n n

-- block b of version v, with C words of w bits in the field before fill. The word count is that of the field plus two.
pub record Asks (h : List ℕ) (b v w C : ℕ) : Type 0 where
  pub id : IsBlock (word 1 h) b
  pub size : word 2 h ≡ w
  pub count : word 3 h * 256 + word 4 h ≡ C + 2
  pub version : word 8 h ≡ v
  pub known : v ≤ 3
  pub suits : Suits b v w C
