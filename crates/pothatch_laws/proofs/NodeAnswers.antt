-- Each contract of a node's call says by equations what it answers and leaves.
use Prim.Native.Nat.{ℕ}
use mathlib.Core.Path.{refl}
use mathlib.Core.Bool.{◌&&◌}
use mathlib.Core.List.{List, []}
use lib.Dec.{leb}
use lib.ListN.{replicate, length-replicate}
use Rattle.refusal.specs.Verdict.{verdict_number}
use Rattle.refusal.specs.Verdict.{Verdict}
use Rattle.image.specs.Effects.{on_accept, hand_verdict, result_bytes}
use Rattle.image.specs.Part.{AllBytes}
use Rattle.node_image.specs.Node.{node_image}
use Rattle.node_laws.specs.Calls.{NodeCall, starting, polling, delivering, asking, sending, receiving, reporting, lent_to}
use Rattle.node_calls.specs.Calls.{made_of, performed_in, call_verdict, give_verdict}
use Rattle.node_calls.specs.Results.{value_of, struct_of}
use Rattle.node_call_laws.specs.Fits.{Callable}
use Rattle.pothatch_laws.specs.Node.{Call, making, calling, NodeOutput, node_output, Done, Asked, Changed, Given, CallDid, Did}
use Rattle.pothatch_laws.proofs.Running.{Answer}

-- times of eight bytes, payloads of bytes
abbrev pub Can : Call → Type 0
Can (making form role has x) = AllBytes x
Can (calling c) = Callable c

module _ (c : NodeCall) (s : List ℕ) where
  abbrev stored : Verdict → List ℕ
  stored v = on_accept v s (node_image.put (performed_in c s).node)

  abbrev valued : List ℕ → NodeOutput
  valued d = node_output (verdict_number (call_verdict c s)) (on_accept (call_verdict c s) 0 (value_of (performed_in c s).object)) [] d

  does : Answer (Done c s)
  does = record {
    answer = valued (lent_to c);
    after = stored (call_verdict c s);
    did = record { does = record { tells = record { number = refl; value = refl }; node = refl }; struct = refl; lent = refl };
  }

  asks : Answer (Asked c s)
  asks = record {
    answer = valued (lent_to c);
    after = s;
    did = record { tells = record { number = refl; value = refl }; image = refl; struct = refl; lent = refl };
  }

  module _ (n : ℕ) where
    abbrev empty : List ℕ
    empty = replicate n 0

    abbrev verdict : Verdict
    verdict = give_verdict n c s empty

    abbrev handing : NodeOutput
    handing = node_output (verdict_number verdict) 0 (result_bytes n verdict (struct_of (performed_in c s).object) empty) (lent_to c)

    changes : Answer (Changed n c s)
    changes = record {
      answer = handing;
      after = stored verdict;
      did = record {
        before = empty;
        fits = length-replicate n 0;
        changes = record { gives = record { number = refl; result = refl }; node = refl };
        value = refl;
        lent = refl;
      };
    }

    gives : Answer (Given n c s)
    gives = record {
      answer = handing;
      after = s;
      did = record {
        before = empty;
        fits = length-replicate n 0;
        gives = record { number = refl; result = refl };
        image = refl;
        value = refl;
        lent = refl;
      };
    }

called : (c : NodeCall) (s : List ℕ) → Answer (CallDid c s)
called (starting time timeout d) s =
    let c = starting time timeout d in
    record {
      answer = valued c s (on_accept (call_verdict c s) d (performed_in c s).lent);
      after = stored c s (call_verdict c s);
      did = record {
        starts = record { does = record { tells = record { number = refl; value = refl }; node = refl }; dst = refl };
        struct = refl;
      };
    }
called (polling time) s = does (polling time) s
called (delivering delivery time payload) s = changes (delivering delivery time payload) s 17
called (asking time) s = asks (asking time) s
called (sending type) s = changes (sending type) s 33
called (receiving type identifier) s = gives (receiving type identifier) s 33
called (reporting type identifier) s = does (reporting type identifier) s

pub one : (c : Call) (s : List ℕ) → Can c → Answer (Did c s)
one (making form role has x) s can =
    let m = made_of form role has x in
    let v = hand_verdict 878 (leb form 1 && leb has 1) m.verdict s in
    record {
      answer = node_output (verdict_number v) 0 [] x;
      after = result_bytes 878 v (node_image.put m.node) s;
      did = record { bytes = can; makes = record { number = refl; result = refl }; value = refl; struct = refl; lent = refl };
    }
one (calling c) s can = let a = called c s in record { answer = a.answer; after = a.after; did = record { callable = can; did = a.did } }
