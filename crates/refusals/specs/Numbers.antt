-- What a call returns. Assumes nothing.
--     number      the number of each refusal
--     returned    what a call returns: 0 where it is done, else its refusal's number
use Rattle.std.specs.Prelude.{ℕ, Ok, Err, Result}
use Rattle.refusals.specs.declared.Refusal.{Refusal}
use Rattle.refusals.specs.declared.Refusal.TheVariants as why

abbrev pub number : Refusal → ℕ
number why.SegmentCount = 1
number why.BadAddress = 2
number why.BadDirection = 3
number why.EmptyRead = 4
number why.TooManyBytes = 5
number why.WriteBytes = 6
number why.NoSuchNumber = 7
number why.NotIdle = 8
number why.NotWaiting = 9
number why.BusNotFree = 10
number why.NotAnswered = 11
number why.ShortBuffer = 12
number why.NoSuchPlace = 13
number why.LongRun = 14
number why.NoSuchRegister = 15
number why.BadValue = 16
number why.NotNow = 17
number why.TwoAtOnce = 18
number why.BadLine = 19
number (why.AgainstTurns place) = 20
number why.Unfinished = 21
number why.FullBook = 22

abbrev pub returned : {A : Type 0} → Result A Refusal → ℕ
returned (Ok v) = 0
returned (Err e) = number e
