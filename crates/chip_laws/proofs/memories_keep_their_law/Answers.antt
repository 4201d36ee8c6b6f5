use Rattle.chip_laws.proofs.Memories.{memory_law}
use Rattle.chip_laws.proofs.memories_keep_their_law.Goals as goal

pub returns : goal.returns
returns c = memory_law
