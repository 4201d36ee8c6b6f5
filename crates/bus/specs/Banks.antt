-- A bank is one of a kind or two banks, of which the left is numbered first. Assumes nothing.
use Rattle.std.specs.Prelude.{ℕ, zero, suc, List, [], ◌∷◌, ◌++◌, Some, None, Option}
use Rattle.history.specs.Marks.{least}
use Rattle.bus.specs.declared.Symbol.{Symbol}
use Rattle.bus.specs.Symbols.{symbols}

pub data Bank (X : Type 0) : Type 0 where
  Single : X → Bank X
  Both : Bank X → Bank X → Bank X

module _ {X : Type 0} where
  -- each of them altered
  abbrev pub each : (X → X) → Bank X → Bank X
  each f (Single x) = Single (f x)
  each f (Both a b) = Both (each f a) (each f b)

  abbrev pub All : (X → Type 0) → Bank X → Type 0
  All P (Single x) = P x
  All P (Both a b) = All P a × All P b

  -- the least of their symbols
  abbrev pub least_of : (X → Symbol) → Bank X → Symbol
  least_of f (Single x) = f x
  least_of f (Both a b) = least symbols (least_of f a) (least_of f b)

  -- a number less the count of the bank, if it is that of none of it
  abbrev pub beyond : ℕ → Bank X → Option ℕ
  beyond zero (Single x) = None
  beyond (suc n) (Single x) = Some n
  beyond n (Both a b) = elim (beyond n a) [ None ↦ None | Some k ↦ beyond k b ]

  -- what the one with the number n answers, or r if there is none
  abbrev pub ask : {R : Type 0} → R → (X → R) → ℕ → Bank X → R
  ask r f zero (Single x) = f x
  ask r f (suc n) (Single x) = r
  ask r f n (Both a b) = elim (beyond n a) [ None ↦ ask r f n a | Some k ↦ ask r f k b ]

  -- the one with the number n altered
  abbrev pub alter : (X → X) → ℕ → Bank X → Bank X
  alter f zero (Single x) = Single (f x)
  alter f (suc n) (Single x) = Single x
  alter f n (Both a b) = elim (beyond n a) [ None ↦ Both (alter f n a) b | Some k ↦ Both a (alter f k b) ]

  -- what each of them has, in the order of their numbers
  abbrev pub listed : {Y : Type 0} → (X → Y) → Bank X → List Y
  listed f (Single x) = f x ∷ []
  listed f (Both a b) = listed f a ++ listed f b
