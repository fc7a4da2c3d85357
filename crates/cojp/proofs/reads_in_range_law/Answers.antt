-- What is taken is in range: proofs/Reading.antt goes over the parameters, by what is promised of key sets.
use Rattle.cojp.proofs.Reading.{reads-in-range}
use Rattle.cojp.proofs.reads_in_range_law.Goals as goal

pub returns : goal.returns
returns c = reads-in-range c.laws-2.ensures c.laws.ensures
