-- Each key more keeps the flags exact, or spoils the set for good.
use Rattle.link_key.proofs.set.Flags.{exactly-none, all_told}
use Rattle.link_key.proofs.set.seen.flags_law.Goals as goal

pub returns : goal.returns
returns c = record { clear = exactly-none; told = all_told }
