-- A call whose number is not 0 was refused, and what a refusal leaves is said by the verdict alone.
use mathlib.Core.List.{[]}
use Rattle.address_ledger.specs.Ledger.{opened}
use Rattle.address_ledger_laws.specs.Demand1.{counting}
use Rattle.image.proofs.Lent.{kept, emptied}
use Rattle.state_image.specs.Ledger.{ledger_image}
use Rattle.ledger_calls.specs.Laws.{LedgerRefusals}
use Rattle.ledger_calls.specs.Ledger.{open_verdict, performed_in, ledger_verdict}

pub ledger-refusals : LedgerRefusals
ledger-refusals =
    record {
      opening = λ first size m s r s' d h.
          emptied 16 (open_verdict first size m s) (ledger_image.put (opened first size m).ledger) s d.number h d.ledger;
      call = λ c s m r s' m' v d h.
          let verdict = ledger_verdict c s m in
          let p = performed_in c s m in (
            kept verdict s (ledger_image.put p.ledger) d.number h d.ledger,
            kept verdict m p.memory d.number h d.memory,
            kept verdict 0 p.value d.number h d.value,
          );
      count = λ s r v d h. kept (ledger_verdict counting s []) 0 (performed_in counting s []).value d.number h d.value;
    }
