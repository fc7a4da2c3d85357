-- Each contract says by equations what a call answers and leaves, so every call is answered; and a turn goes one way or the other at each
-- step.
use Prim.Native.Nat.{ℕ, ◌<◌}
use mathlib.Core.Path.{◌≡◌, refl, ap, sym, ◌∙◌, subst}
use mathlib.Core.Bool.{Bool, true, false}
use mathlib.Core.List.{List, [], ◌∷◌}
use native.Mathlib.Decide.{ℕ_discrete}
use native.Mathlib.Omega.{arith}
use lib.ListN.{length, set, replicate, length-replicate}
use Rattle.refusal.specs.Verdict.{verdict_number}
use Rattle.refusal.specs.Verdict.{Verdict}
use Rattle.lemmas.specs.lists.Same as bytes
use Rattle.lemmas.specs.lists.SameLemmas.{same-equal, same_refl}
use Rattle.image.specs.Effects.{on_accept, result_bytes}
use Rattle.node_image.specs.Node.{node_image}
use Rattle.node_laws.specs.Calls.{NodeCall, starting, polling, delivering, asking, sending, receiving, reporting, lent_to}
use Rattle.node_calls.specs.Calls.{performed_in, call_verdict, give_verdict}
use Rattle.node_calls.specs.Results.{value_of, struct_of}
use Rattle.network.specs.Events.{Event, turning, calling}
use Rattle.pothatch_laws.specs.Node.{NodeOutput, node_output, Done, Asked, Changed, Given, CallDid, Called}
use Rattle.pothatch_laws.specs.Runs.{none_made, next-made}
use Rattle.network_call_laws.specs.Network.{Structs, struct_at, Answer, of-turn, of-call, Did, turned, called}
use Rattle.network_call_laws.specs.Playing.{Playable, AllPlayable, EventsPlay}
use Rattle.network_call_laws.specs.Turn.{identifier_in, key_in, Accepted, Played, not-sent, not-received, failed, verified}
use Rattle.network_call_laws.proofs.Networks.{did-length}

-- ---- a call
pub record Answered (D : NodeOutput → List ℕ → Type 0) : Type 0 where
  pub told : NodeOutput
  pub after : List ℕ
  pub did : D told after

module _ (c : NodeCall) (s : List ℕ) where
  abbrev stored : Verdict → List ℕ
  stored v = on_accept v s (node_image.put (performed_in c s).node)

  abbrev valued : List ℕ → NodeOutput
  valued d = node_output (verdict_number (call_verdict c s)) (on_accept (call_verdict c s) 0 (value_of (performed_in c s).object)) [] d

  does : Answered (Done c s)
  does = record {
    told = valued (lent_to c);
    after = stored (call_verdict c s);
    did = record { does = record { tells = record { number = refl; value = refl }; node = refl }; struct = refl; lent = refl };
  }

  asks : Answered (Asked c s)
  asks = record {
    told = valued (lent_to c);
    after = s;
    did = record { tells = record { number = refl; value = refl }; image = refl; struct = refl; lent = refl };
  }

  module _ (n : ℕ) where
    abbrev empty : List ℕ
    empty = replicate n 0

    abbrev verdict : Verdict
    verdict = give_verdict n c s empty

    abbrev handing : NodeOutput
    handing = node_output (verdict_number verdict) 0 (result_bytes n verdict (struct_of (performed_in c s).object) empty) (lent_to c)

    changes : Answered (Changed n c s)
    changes = record {
      told = handing;
      after = stored verdict;
      did = record {
        before = empty;
        fits = length-replicate n 0;
        changes = record { gives = record { number = refl; result = refl }; node = refl };
        value = refl;
        lent = refl;
      };
    }

    gives : Given n c s handing s
    gives = record {
      before = empty;
      fits = length-replicate n 0;
      gives = record { number = refl; result = refl };
      image = refl;
      value = refl;
      lent = refl;
    }

pub call : (c : NodeCall) (s : List ℕ) → Answered (CallDid c s)
call (starting time timeout d) s =
    let c = starting time timeout d in
    record {
      told = valued c s (on_accept (call_verdict c s) d (performed_in c s).lent);
      after = stored c s (call_verdict c s);
      did = record {
        starts = record { does = record { tells = record { number = refl; value = refl }; node = refl }; dst = refl };
        struct = refl;
      };
    }
call (polling time) s = does (polling time) s
call (delivering delivery time payload) s = changes (delivering delivery time payload) s 17
call (asking time) s = asks (asking time) s
call (sending type) s = changes (sending type) s 33
call (receiving type identifier) s =
    record { told = handing (receiving type identifier) s 33; after = s; did = gives (receiving type identifier) s 33 }
call (reporting type identifier) s = does (reporting type identifier) s

-- ---- a turn
same_or_not : (a b : List ℕ) → Dec (a ≡ b)
same_or_not a b = go (bytes.same a b) refl
  where
    go : (t : Bool) → bytes.same a b ≡ t → Dec (a ≡ b)
    go true e = yes (same-equal a b e)
    go false e = no (λ f.
        let z : true ≡ false = sym (same_refl a) ∙ ap (bytes.same a) f ∙ e in
        absurd (let u : ◌≡◌ {A = ℕ} 0 1 = cc in omega arith))

record Turn (type : ℕ) (s w : List ℕ) : Type 0 where
  number : ℕ
  code : ℕ
  sender : List ℕ
  receiver : List ℕ
  played : Played type s w number code sender receiver

by : {type : ℕ} {s w : List ℕ} {r c : ℕ} {s' w' : List ℕ} → Played type s w r c s' w' → Turn type s w
by {r = r} {c = c} {s' = s'} {w' = w'} p = record { number = r; code = c; sender = s'; receiver = w'; played = p }

module _ (type : ℕ) (s w : List ℕ) (byte : type < 256) where
  abbrev first : Answered (CallDid (sending type) s)
  first = call (sending type) s

  abbrev identifier : ℕ
  identifier = identifier_in first.told.struct

  abbrev second : NodeOutput
  second = handing (receiving type identifier) w 33

  sent : Called (sending type) s first.told first.after
  sent = record { callable = byte; did = first.did }

  received : Called (receiving type identifier) w second w
  received = record { callable = byte; did = gives (receiving type identifier) w 33 }

  by-keys : Accepted (sending type) s first.told first.after → Accepted (receiving type identifier) w second w
      → Dec (key_in first.told.struct ≡ key_in second.struct) → Turn type s w
  by-keys x y (yes e) =
      let r = call (reporting type identifier) w in
      by (verified {a = first.told} {b = second} {d = r.told} x y e (record { callable = byte; did = r.did }))
  by-keys x y (no f) = by (failed {a = first.told} {b = second} x y f)

  by-receiver : Accepted (sending type) s first.told first.after → Dec (second.number ≡ 0) → Turn type s w
  by-receiver x (yes e) =
      by-keys x (record { called = received; accepted = e }) (same_or_not (key_in first.told.struct) (key_in second.struct))
  by-receiver x (no f) = by (not-received {a = first.told} {b = second} x (record { called = received; refused = f }))

  by-sender : Dec (first.told.number ≡ 0) → Turn type s w
  by-sender (yes e) = by-receiver (record { called = sent; accepted = e }) (ℕ_discrete second.number 0)
  by-sender (no f) = by (not-sent (record { called = sent; refused = f }))

  turn : Turn type s w
  turn = by-sender (ℕ_discrete first.told.number 0)

-- ---- an event, and lists of them
pub record Happened (e : Event) (structs : Structs) : Type 0 where
  pub told : Answer
  pub after : Structs
  pub did : Did e structs told after

pub play : (e : Event) (structs : Structs) → Playable (length structs) e → Happened e structs
play (turning i j type) structs h =
    let t = turn type (struct_at structs i) (struct_at structs j) h.3 in
    record {
      told = of-turn t.number t.code;
      after = set (set structs i t.sender) j t.receiver;
      did = turned h.0 h.1 h.2 t.played;
    }
play (calling i c) structs h =
    let t = call c (struct_at structs i) in
    record {
      told = of-call t.told;
      after = set structs i t.after;
      did = called h.0 (record { callable = h.1; did = t.did });
    }

pub events-play : EventsPlay
events-play [] structs h = record { told = []; left = structs; runs = none_made }
events-play (e ∷ es) structs h =
    let p = play e structs h.0 in
    let q = events-play es p.after (subst (λ (k : ℕ). AllPlayable k es) (sym (did-length p.did)) h.1) in
    record { told = p.told ∷ q.told; left = q.left; runs = next-made p.did q.runs }
