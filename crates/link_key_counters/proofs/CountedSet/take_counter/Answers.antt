-- `take_counter` meets its contract: the place that `serving` answers says which key is the first that serves, and whether there is one.
use native.Mathlib.Omega.{arith}
use mathlib.Core.Path.{◌≡◌, sym, ◌∙◌}
use borrow.Author.Rules.{rules}
use lib.ListN.{length, get_or}
use mir.Val.{Fits}
use mir.Syntax.{w32}
use Rattle.link_key_counters.specs.Counters.{take_counter}
use Rattle.link_key_counters.proofs.Places.{serving-there, none-serves, unused}
use Rattle.link_key_counters.proofs.CountedSet.take_counter.Goals as goal

pub overflow_add-counters : goal.overflow_add-counters
overflow_add-counters c =
    let eight : length c.args.self.set.keys ≡ 8 = search rules in
    let fits : Fits w32 (get_or c.args.self.counters c.in-Some.i 0) = search rules in
    let not_last = unused c.args.frame_type c.args.self eight c.in-Some.i c.in-Some.ensures.place in
    omega (arith, fits.fits, not_last)

pub returns-in-Some : goal.returns-in-Some
unfolding take_counter
returns-in-Some c =
    let eight : length c.args.self.set.keys ≡ 8 = search rules in
    rw (serving-there c.args.frame_type c.args.self eight c.in-Some.i c.in-Some.ensures.place)

pub returns-in_default : goal.returns-in_default
unfolding take_counter
returns-in_default c =
    let eight : length c.args.self.set.keys ≡ 8 = search rules in
    rw (none-serves c.args.frame_type c.args.self eight (sym c.in_default.is ∙ c.serving.ensures.place), c.no_key-key.ensures)
