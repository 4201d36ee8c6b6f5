use Rattle.std.proofs.Common.{◌≡◌, ℕ, List, [], length}
use Rattle.books.specs.Marks.{Grows}
use Rattle.bench.specs.Benches.{model}
use Rattle.law.proofs.Running.{Ahead}
use Rattle.bench.proofs.Bench.run_slots.Given as goal

-- the book has gained the ranks of the slots moved so far
abbrev pub invariant-loop-k : goal.invariant-loop-k
invariant-loop-k g l =
    let f = model g.M.Masters g.S.Slaves in
    (gained : List ℕ) × (length gained ≡ l.k) × Grows l.initial.book l.book gained × Ahead l.n l.k (f l.initial.self) (f l.self) [] gained
