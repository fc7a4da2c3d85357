-- The keys stand behind the count, the counters behind the keys.
use Rattle.key_image.proofs.Images.{set-got, counted-got}
use Rattle.key_image.proofs.counted_set.counted_set_at.Goals as goal

pub returns : goal.returns
returns c =
    let src = c.args.src.now in
    let at = c.args.at in
    counted-got src at (set-got src at c.number_at-count.ensures c.keys_at-keys.ensures) c.counters_at-counters.ensures
