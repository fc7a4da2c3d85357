-- Laws of the usage list: a usage is listed or refused, and what the table says of it is the rule's.
use Rattle.std.specs.Prelude.{Ok, Err}
use Prim.Native.Nat.{ℕ, ◌≤◌, ◌<◌}
use native.Mathlib.Omega.{arith}
use mathlib.Core.Path.{◌≡◌}
use borrow.Author.Tests.{le-leb, lt-leb}
use lib.ListN.{get_or}
use Rattle.refusal.specs.declared.Refusal.TheVariants.{Range}
use Rattle.link_key.specs.usage.Usage.{usage_of, entry_at}
use Rattle.link_key.specs.declared.usage.Usage.{Usage}
use Rattle.link_key.proofs.usage.Table.{ruled, at}

pub entry_listed : (usage : ℕ) → usage ≤ 14 → entry_at usage ≡ Ok (usage_of usage)
unfolding entry_at
entry_listed usage h = rw (le-leb usage 14 h)

pub entry-refused : (usage : ℕ) → 14 < usage → entry_at usage ≡ Err Range
unfolding entry_at
entry-refused usage h = rw (lt-leb usage 14 h)

-- the table that the rule gives
pub entry-of-table : (usage : ℕ) (past : Usage) → usage ≤ 14 → Ok (get_or (ruled usage_of 0 15) usage past) ≡ entry_at usage
entry-of-table usage past h = rw (entry_listed usage h, at usage_of 15 usage past (omega arith))
