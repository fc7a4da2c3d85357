-- A call whose number is not 0 was refused, and what a refusal leaves is said by the verdict alone.
use Rattle.image.proofs.Lent.{kept, hands-emptied}
use Rattle.node_image.specs.Node.{node_image}
use Rattle.image.specs.Part.{is_image}
use mathlib.Core.Bool.{◌&&◌}
use lib.Dec.{leb}
use Rattle.node_laws.specs.Calls.{starting}
use Rattle.node_calls.specs.Calls.{made_of, performed_in, call_verdict, give_verdict}
use Rattle.node_calls.specs.Laws.{NodeRefusals}
use Rattle.node_calls.specs.Results.{value_of, struct_of}

pub refusals-keep : NodeRefusals
refusals-keep =
    record {
      make = λ form role has x s r s' d h.
          hands-emptied 878 (leb form 1 && leb has 1) (made_of form role has x).verdict
          (node_image.put (made_of form role has x).node) s r s' d h;
      question = λ c s r v d h. kept (call_verdict c s) 0 (value_of (performed_in c s).object) d.number h d.value;
      call = λ c s r s' v d h. (
        kept (call_verdict c s) s (node_image.put (performed_in c s).node) d.tells.number h d.node,
        kept (call_verdict c s) 0 (value_of (performed_in c s).object) d.tells.number h d.tells.value,
      );
      start = λ time timeout s d r s' d' v w h.
          let c = starting time timeout d in (
            kept (call_verdict c s) s (node_image.put (performed_in c s).node) w.does.tells.number h w.does.node,
            (
              kept (call_verdict c s) d (performed_in c s).lent w.does.tells.number h w.dst,
              kept (call_verdict c s) 0 (value_of (performed_in c s).object) w.does.tells.number h w.does.tells.value,
            ),
          );
      answer = λ n c s w r w' d h.
          hands-emptied n (is_image node_image s) (performed_in c s).verdict (struct_of (performed_in c s).object) w r w' d h;
      change = λ n c s w r s' w' d h. (
        kept (give_verdict n c s w) s (node_image.put (performed_in c s).node) d.gives.number h d.node,
        hands-emptied n (is_image node_image s) (performed_in c s).verdict (struct_of (performed_in c s).object) w r w' d.gives h,
      );
    }
