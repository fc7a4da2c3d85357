-- From each byte string on the list is judged as from the first.
use Rattle.std.proofs.Common.{◌≡◌, ◌≤◌, length}
use Rattle.cojp.specs.Lists.{strings_in, kept}
use Rattle.capi_judge.specs.Kept.{list_in}
use Rattle.capi_judge.proofs.Strings.{made}
use Rattle.capi_judge.proofs.list.is_blacklist_in.Given as goal

abbrev pub invariant-loop-left : goal.invariant-loop-left
invariant-loop-left l = (l.at ≤ length l.s) × (kept strings_in (list_in l.fn.count l.s) ≡ made l.s l.at l.left)
