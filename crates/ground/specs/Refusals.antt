-- The number of each refusal, and the number that an answer is told by: 0 where it is no refusal.
-- Assumes nothing.
use Rattle.std.specs.Prelude.{ℕ, Result, Ok, Err}
use Rattle.ground.specs.declared.Refusal.{Refusal}
use Rattle.ground.specs.declared.Refusal.TheVariants.{NoHeader, NoCopyPasses, CopiesDiffer, UnknownBlock, UnknownVersion, WrongSize, WrongCount, WrongLength, SmallRoom, CheckDisagrees, FillNotZero, BadTag, NoRecord, LargeWord, OtherField, LongLimit, OffBoundary, NoBlock, BadLeapDays, BadFill, SpareBit, OutOfRange}

abbrev pub number_of : Refusal → ℕ
number_of NoHeader = 1
number_of NoCopyPasses = 2
number_of CopiesDiffer = 3
number_of UnknownBlock = 4
number_of UnknownVersion = 5
number_of WrongSize = 6
number_of WrongCount = 7
number_of WrongLength = 8
number_of SmallRoom = 9
number_of CheckDisagrees = 10
number_of FillNotZero = 11
number_of BadTag = 12
number_of NoRecord = 13
number_of LargeWord = 14
number_of OtherField = 15
number_of LongLimit = 16
number_of OffBoundary = 17
number_of NoBlock = 18
number_of BadLeapDays = 19
number_of BadFill = 20
number_of SpareBit = 21
number_of OutOfRange = 22

abbrev pub number_in : {T : Type 0} → Result T Refusal → ℕ
number_in (Ok x) = 0
number_in (Err r) = number_of r
