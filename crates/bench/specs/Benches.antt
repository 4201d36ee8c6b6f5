-- What a bench means: what its masters and its slaves mean. Assumes nothing.
use Rattle.masters.specs.declared.Masters as masters
use Rattle.slaves.specs.declared.Slaves as slaves
use Rattle.law.specs.Model.{Model}
use Rattle.bench.specs.declared.Bench.{Bench}

abbrev pub model : {M S : Type 0} → masters.Ghosts M → slaves.Ghosts S → Bench M S → Model
model f g b = record { masters = f.bank b.masters; slaves = g.bank b.slaves }
