-- The rekey of a line of three nodes is computed, and demand 3 is applied to it.
use Prim.Native.Nat.{ℕ, zero, suc, ◌<◌}
use native.Mathlib.Omega.{arith}
use mathlib.Core.Path.{◌≡◌, refl, ap, ◌∙◌}
use mathlib.Core.Bool.{Bool, true, false, not, ◌&&◌}
use borrow.Author.Tests.{ltb-true, not-true, eqb-false}
use mathlib.Core.List.Memᴰ
use mathlib.Core.List.Memᴰ.{head as at}
use mathlib.Core.List.Memᴰ.{tail as past}
use mathlib.Core.List.{List, [], ◌∷◌, Memᴰ}
use mathlib.Core.List.{◌++◌}
use mathlib.Core.Logic.{inl, inr, ⊎_elim}
use lib.Dec.{lit<, ltb, eqb}
use lib.ListN.{length}
use Rattle.refusal.specs.declared.Refusal.TheVariants as refusal
use Rattle.lemmas.specs.lists.Same.{same}
use Rattle.link_key.specs.Key.{valid_key, has_no_additional_info, same_key, same_secret, covers}
use Rattle.lemmas.specs.logic.Tests.{never, both_left, both_right, neither_left, neither_right}
use Rattle.link_key.specs.set.Lists.{any_of, all_of}
use Rattle.link_key.specs.set.KeySet.{valid_keys, valid_set, Apart}
use Rattle.link_key_counters.specs.Counters.{Slot, last_counter, is_used_up, take_counter, inherit_counters}
use Rattle.link_key.specs.declared.Key.{Key}
use Rattle.byte_io.specs.BigEndian.{digits, bytes_of}
use Rattle.cbor.specs.Decode.{payload_by, decode_by, heading, argument, next, members, pairs, major_of}
use Rattle.cbor.specs.Encode.{info_of, extra_of, shortest}
use Rattle.cojp.specs.Octets.{padded, octets_judged}
use Rattle.cojp.specs.Address.{address_in}
use Rattle.cojp.specs.KeySet.{groups, identified, used, valued}
use Rattle.cojp.specs.Request.{owing}
use Rattle.cojp.specs.Walk.{payload_read_by}
use Rattle.cojp.specs.Parameter.{later_parameter, parameter_of}
use Rattle.cojp.specs.Configuration.{configuration_taking}
use Rattle.cojp.specs.ErrorReports.{valid_error_reports, error_reports_valid, added}
use Rattle.cojp.specs.Reported.{error_reports_of}
use Rattle.cojp.specs.Writing.{request_in_range, request_plan}
use Rattle.cojp_list.specs.Listed.{listed_in}
use Rattle.node_key_sets.specs.Sets as sets
use Rattle.node_key_sets.specs.Sets.{slots_in, install}
use Rattle.node_key_sets.specs.Frames as frames
use Rattle.node_key_sets.specs.Frames.{receiving_key, verified_in}
use Rattle.node_attempt.specs.Attempt as attempt
use Rattle.node_attempt.specs.Attempt.{may_start}
use Rattle.node_attempt.specs.Poll as polling
use Rattle.node_attempt.specs.Poll.{stepped}
use Rattle.node_parameters.specs.Dispositions.{dispositions_of}
use Rattle.node.specs.Node.{active_of, pending_of}
use Rattle.node.specs.Range.{version_valid, valid, Valid}
use Rattle.node.specs.Timing.{request_of, start_verdict, start_plan, start, poll}
use Rattle.node.specs.Delivery.{fitted, configured, apply, deliver_verdict, deliver}
use Rattle.node.specs.Frames.{sending, send, send_counter, after_send, receive, verified}
use Rattle.node_laws.specs.Calls.{perform}
use Rattle.node_laws.specs.Laws.{Takes, Unspent}
use Rattle.node.specs.declared.node.Node.{Node}
use Rattle.node_attempt.specs.delivery.Delivery.{may_come}
use Rattle.node_attempt.specs.declared.delivery.Delivery.TheVariants.{Update}
use Rattle.network.specs.Network.{Network, node_at, with_node}
use Rattle.network_turn.specs.Turn.{judged, turn}
use Rattle.network.specs.Events.{Event, turning, calling, step, run, Admissible, AdmissibleEvent, Throughout}
use Rattle.network.specs.Rounds.{Neighbours, Hops, here, hop, Linked, AllLinked, Round, Rounds, none, more}
use Rattle.network.specs.Demand3.{Supposed, NoneUsedUp, Demand3}
use Rattle.network.specs.RekeyExample
use Rattle.network.specs.RekeyExample.{old_keys, new_keys, line, line_links, first, taken, worst, twice, RekeyExample}
use Rattle.network.proofs.Places.{size_step}

-- what computing unfolds: items, keys, objects, the node's calls, and the network's events
unfoldable pub computing : Unit {0}
unfolding payload_by decode_by heading argument next digits members pairs major_of bytes_of info_of extra_of shortest
    valid_key has_no_additional_info same_key same covers valid_keys valid_set
    padded octets_judged address_in groups identified used valued owing payload_read_by
    later_parameter parameter_of configuration_taking valid_error_reports error_reports_valid added error_reports_of listed_in
    request_in_range request_plan
    take_counter same_secret inherit_counters sets.valid sets.valid_as install frames.sending receiving_key verified_in attempt.valid may_start
    stepped polling.poll
    version_valid valid request_of start_verdict start_plan start poll dispositions_of fitted configured apply may_come deliver_verdict deliver
    sending send send_counter after_send receive verified perform
    node_at with_node judged turn step run Admissible AdmissibleEvent
computing = tt

pub three : (P : ℕ → Type 0) → P 0 → P 1 → P 2 → (i : ℕ) → i < 3 → P i
three P a b c zero l = a
three P a b c (suc zero) l = b
three P a b c (suc (suc zero)) l = c
three P a b c (suc (suc (suc i))) l = absurd (omega arith)

-- two sets of one key each, with two identifiers
pub ones-apart : (k l : Key) → (k.identifier ≡ l.identifier → ⊥) → Apart (k ∷ []) (l ∷ [])
ones-apart k l d x y m m' e =
    let a = ap (λ (z : Key). z.identifier) (Memᴰ.eq_of_singleton m) in
    let b = ap (λ (z : Key). z.identifier) (Memᴰ.eq_of_singleton m') in
    d (cc)

pub ones-differ : (k l : Key) → (k.identifier ≡ l.identifier → ⊥) → k ∷ [] ≡ l ∷ [] → ⊥
ones-differ k l d e = d (cc)

pub apart : Apart old_keys new_keys
apart = ones-apart _ _ (λ e. omega arith)

pub differ : old_keys ≡ new_keys → ⊥
differ = ones-differ _ _ (λ e. omega arith)

-- ---- the nodes
pub supposed : Supposed line 0 new_keys 1
unfolding computing
supposed =
    record {
      valid = three (λ i. Valid (node_at line i)) refl refl refl;
      inside = lit< tt;
      is-border = refl;
      ordinary = three (λ i. (i ≡ 0 → ⊥) → (node_at line i).role ≡ 0) (λ f. absurd (f refl)) (λ _. refl) (λ _. refl);
      covering = record { key = _; member = at refl; covering = refl };
      pending =
          three (λ i. (node_at line i).role ≡ 0 → pending_of (node_at line i) ≡ new_keys) (λ e. absurd (omega arith)) (λ _. refl) (λ _. refl);
      active-at-none = three (λ i. active_of (node_at line i) ≡ new_keys → ⊥) differ differ differ;
      former-apart = apart;
    }

-- ---- links, rounds and hops
pub linked-worst : AllLinked line_links 1 worst
linked-worst e (at q) = rw q (inr (past (at refl)), refl)
linked-worst e (past (at q)) = rw q (inl (past (at refl)), refl)
linked-worst e (past (past (at q))) = rw q (inr (at refl), refl)
linked-worst e (past (past (past (at q)))) = rw q (inl (at refl), refl)
linked-worst e (past (past (past (past m)))) = elim m [ ]

-- what holds of the two nodes of a link
pub of-link : (P : ℕ → ℕ → Type 0) (i j x y : ℕ) → ◌≡◌ {A = ℕ × ℕ} (i, j) (x, y) → P x y → P i j
of-link P i j x y q p =
    let a : i ≡ x = ap (λ (l : ℕ × ℕ). l.0) q in
    let b : j ≡ y = ap (λ (l : ℕ × ℕ). l.1) q in
    rw (a, b) p

abbrev There : ℕ → ℕ → Type 0
There i j = Memᴰ (turning i j 1) worst

abbrev Back : ℕ → ℕ → Type 0
Back i j = There j i

pub round-worst : Round line_links 1 worst
round-worst i j (inl (at q)) = of-link There i j 0 1 q (past (past (past (at refl))))
round-worst i j (inl (past (at q))) = of-link There i j 1 2 q (past (at refl))
round-worst i j (inr (at q)) = of-link Back j i 0 1 q (past (past (at refl)))
round-worst i j (inr (past (at q))) = of-link Back j i 1 2 q (at refl)
round-worst i j (inl (past (past m))) = elim m [ ]
round-worst i j (inr (past (past m))) = elim m [ ]

pub hops : Hops (Neighbours line_links) 2 0 2
hops = hop (inl (at refl)) (hop (inl (past (at refl))) here)

pub linked-twice : AllLinked line_links 1 twice
linked-twice e m = ⊎_elim (linked-worst e) again (Memᴰ.append_cases worst m)
  where
    again : Memᴰ e (worst ++ []) → Linked line_links 1 e
    again n = ⊎_elim (linked-worst e) (λ o. absurd (Memᴰ.not-nil o)) (Memᴰ.append_cases worst n)

pub rounds : Rounds line_links 1 2 twice
rounds = more worst round-worst (more worst round-worst none)

-- ---- turns of two different nodes come in any network that has both: one test of a whole list
abbrev between : ℕ → Event → Bool
between size (turning i j type) = ltb i size && (ltb j size && not (eqb i j))
between size (calling i c) = false

comes : (net : Network) (e : Event) → between (length net) e ≡ true → AdmissibleEvent net e
unfolding AdmissibleEvent
comes net (turning i j type) t =
    let size = length net in
    let others = both_right (ltb i size) (ltb j size && not (eqb i j)) t in
    let differ = not-true (eqb i j) (both_right (ltb j size) (not (eqb i j)) others) in (
      ltb-true i size (both_left (ltb i size) (ltb j size && not (eqb i j)) t),
      ltb-true j size (both_left (ltb j size) (not (eqb i j)) others),
      eqb-false i j differ,
    )
comes net (calling i c) t = never false t refl

pub turns-come : (size : ℕ) (net : Network) (es : List Event) → length net ≡ size → all_of (between size) es ≡ true → Admissible net es
unfolding Admissible
turns-come size net [] l t = tt
turns-come size net (e ∷ es) l t = (
  comes net e (rw l (both_left (between size e) (all_of (between size) es) t)),
  turns-come size (step net e) es (size_step net e ∙ l) (both_right (between size e) (all_of (between size) es) t),
)

-- ---- what happens, computed
before : Admissible line first
unfolding computing
before = (
  (lit< tt, lit< tt, λ e. omega arith),
  (
    (lit< tt, lit< tt, λ e. omega arith),
    (
      (lit< tt, lit< tt, λ e. omega arith),
      (
        (lit< tt, record { why = refusal.Keys; refused = refl }),
        (
          (lit< tt, record { why = refusal.Clock; refused = refl }),
          (
            (lit< tt, record { why = refusal.Phase; refused = refl }),
            ((lit< tt, tt), ((lit< tt, tt), ((lit< tt, tt), tt))),
          ),
        ),
      ),
    ),
  ),
)

takes : Takes Update (node_at (run line first) 0) 20000 RekeyExample.payload new_keys
unfolding computing
takes = record { accepted = refl; taken = refl; set = refl }

after : Admissible taken twice
unfolding computing
after = turns-come 3 taken twice refl refl

-- ---- no counter has come to its end: one test of every node at every moment
unfoldable pub unspent_at : Node → Bool
unspent_at n = not (any_of is_used_up (slots_in n.sets))

none-used : {x : Slot} {xs : List Slot} → Memᴰ x xs → any_of is_used_up xs ≡ false → is_used_up x ≡ false
none-used (at {x = y} {xs = ys} p) e = ap is_used_up p ∙ neither_left (is_used_up y) (any_of is_used_up ys) e
none-used (past {x = y} {xs = ys} m) e = none-used m (neither_right (is_used_up y) (any_of is_used_up ys) e)

unspent-node : (ks : List Key) (type : ℕ) (n : Node) → unspent_at n ≡ true → Unspent ks type n
unfolding unspent_at
unspent-node ks type n e k m c u =
    let test = not-true (any_of is_used_up (slots_in n.sets)) e in
    eqb-false u.slot.counter last_counter (none-used u.member test) u.last

unspent-net : (ks : List Key) (type : ℕ) (net : Network) → all_of unspent_at net ≡ true → NoneUsedUp ks type net
unfolding node_at
unspent-net ks type [] e i l = absurd (omega (arith, l))
unspent-net ks type (n ∷ net) e zero l = unspent-node ks type n (both_left (unspent_at n) (all_of unspent_at net) e)
unspent-net ks type (n ∷ net) e (suc i) l = unspent-net ks type net (both_right (unspent_at n) (all_of unspent_at net) e) i (omega arith)

unfoldable pub unspent_through : Network → List Event → Bool
unspent_through net [] = all_of unspent_at net
unspent_through net (e ∷ es) = (all_of unspent_at net && unspent_through (step net e) es)

pub unspent-through :
    (ks : List Key) (type : ℕ) (net : Network) (es : List Event) → unspent_through net es ≡ true → Throughout (NoneUsedUp ks type) net es
unfolding unspent_through Throughout
unspent-through ks type net [] e = unspent-net ks type net e
unspent-through ks type net (x ∷ es) e = (
  unspent-net ks type net (both_left (all_of unspent_at net) (unspent_through (step net x) es) e),
  unspent-through ks type (step net x) es (both_right (all_of unspent_at net) (unspent_through (step net x) es) e),
)

unspent-before : Throughout (NoneUsedUp new_keys 1) line first
unfolding computing unspent_at unspent_through
unspent-before = unspent-through new_keys 1 line first refl

unspent-after : Throughout (NoneUsedUp new_keys 1) taken twice
unfolding computing unspent_at unspent_through
unspent-after = unspent-through new_keys 1 taken twice refl

pub witness : Demand3 → RekeyExample
unfolding Demand3 computing
witness claim =
    let said = claim line 0 new_keys 1 supposed first before in
    record {
      supposed = supposed;
      before = before;
      unspent-before = unspent-before;
      takes = takes;
      after = after;
      unspent-after = unspent-after;
      linked = linked-twice;
      rounds = rounds;
      hops = hops;
      one-round-active = refl;
      one-round-pending = refl;
      two-rounds-active = refl;
      two-rounds-pending = refl;
      none-sends = said.0;
      rekeyed =
          said.1 unspent-before Update 20000 RekeyExample.payload takes line_links 2 twice after linked-twice rounds unspent-after
          2 (lit< tt) hops;
    }
