-- By the label: what its reader made of the parameter is stored.
use mathlib.Core.Path.{sym, ◌∙◌}
use lib.ListN.{drop}
use Rattle.cojp_read.proofs.configuration.Configurations.{keys-pair, address-pair, jrc-pair, network-pair, prefix-pair}
use Rattle.cojp_read.proofs.configuration.Configurations.{blacklist-pair, rate-pair}
use Rattle.cojp_read.proofs.configuration.take_pair.Goals as goal

pub returns-in-Keys-clause-taken : goal.returns-in-Keys-clause-taken
returns-in-Keys-clause-taken c =
    let r = c.take_keys in
    keys-pair c.args.version c.args.c.now c.args.s.now (drop c.args.at c.args.s.now) _ c.labelled_at.ensures _ c.in_ok-label.was _ c.note_label.ensures
    (sym c.parameter_of.ensures ∙ c.in-Keys.is) r.result _ r.ensures.keys r.ensures.rest

pub returns-in-Address-clause-taken : goal.returns-in-Address-clause-taken
returns-in-Address-clause-taken c =
    let r = c.take_address in
    address-pair c.args.version c.args.c.now c.args.s.now (drop c.args.at c.args.s.now) _ c.labelled_at.ensures _ c.in_ok-label.was _ c.note_label.ensures
    (sym c.parameter_of.ensures ∙ c.in-Address.is) r.result _ r.ensures.address r.ensures.rest

pub returns-in-Jrc-clause-taken : goal.returns-in-Jrc-clause-taken
returns-in-Jrc-clause-taken c =
    let r = c.take_octets in
    jrc-pair c.args.version c.args.c.now c.args.s.now (drop c.args.at c.args.s.now) _ c.labelled_at.ensures _ c.in_ok-label.was _ c.note_label.ensures
    (sym c.parameter_of.ensures ∙ c.in-Jrc.is) r.result _ r.ensures.octets r.ensures.rest

pub returns-in-Network-clause-taken : goal.returns-in-Network-clause-taken
returns-in-Network-clause-taken c =
    let r = c.take_octets-in-Network in
    network-pair c.args.version c.args.c.now c.args.s.now (drop c.args.at c.args.s.now) _ c.labelled_at.ensures _ c.in_ok-label.was _ c.note_label.ensures
    (sym c.parameter_of.ensures ∙ c.in-Network.is) r.result _ r.ensures.octets r.ensures.rest

pub returns-in-Prefix-clause-taken : goal.returns-in-Prefix-clause-taken
returns-in-Prefix-clause-taken c =
    let r = c.take_octets-in-Prefix in
    prefix-pair c.args.version c.args.c.now c.args.s.now (drop c.args.at c.args.s.now) _ c.labelled_at.ensures _ c.in_ok-label.was _ c.note_label.ensures
    (sym c.parameter_of.ensures ∙ c.in-Prefix.is) r.result _ r.ensures.octets r.ensures.rest

pub returns-in-Blacklist-clause-taken : goal.returns-in-Blacklist-clause-taken
returns-in-Blacklist-clause-taken c =
    let r = c.take_blacklist in
    blacklist-pair c.args.version c.args.c.now c.args.s.now (drop c.args.at c.args.s.now) _ c.labelled_at.ensures _ c.in_ok-label.was _ c.note_label.ensures
    (sym c.parameter_of.ensures ∙ c.in-Blacklist.is) r.result _ r.ensures.blacklist r.ensures.rest

pub returns-in-Rate-clause-taken : goal.returns-in-Rate-clause-taken
returns-in-Rate-clause-taken c =
    let r = c.take_rate in
    rate-pair c.args.version c.args.c.now c.args.s.now (drop c.args.at c.args.s.now) _ c.labelled_at.ensures _ c.in_ok-label.was _ c.note_label.ensures
    (sym c.parameter_of.ensures ∙ c.in-Rate.is) r.result _ r.ensures.rate r.ensures.rest
