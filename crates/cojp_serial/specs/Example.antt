-- Two boards, computed: the former one left an overrun, an end and a store full of FF. After a reset the next one's payload (01's M1) comes
-- in four parts, one of them empty; calls after its end are PHASE, and LONG where a part passes 256;
-- after another reset nothing has arrived.
-- Then the same payload where each call is lent another length of a larger store: those that are lent too little are RANGE.
-- Last a request with role 2, which is ROLE in the draft and accepted in the published form.
use Rattle.std.specs.Prelude.{◌≡◌, true, false, List, [], ◌∷◌, replicate, Ok, Err}
use Rattle.refusal.specs.declared.Refusal.TheVariants.{Cut, Long, Phase, Range, Role}
use Rattle.cojp.specs.Request.{read_request}
use Rattle.protocol_version.specs.declared.Version.{Version}
use Rattle.protocol_version.specs.declared.Version.TheVariants.{Draft, Published}
use Rattle.cojp_serial.specs.Calls.{request, configuration, SerialCall, resetting, sending, ending, join_request, Held}
use Rattle.cojp_serial.specs.Calls.{told, left_by, answers, verdict_in, verdicts}
use Rattle.cojp_serial.specs.Loans.{Loan, loan, loan_answers}

abbrev pub former : Held
former = record { state = record { arrived = 200; overrun = true; ended = true }; store = replicate 256 0xFF }

abbrev pub in_parts : List SerialCall
in_parts = resetting ∷ sending (0xA1 ∷ []) ∷ sending (0x05 ∷ 0x42 ∷ []) ∷ sending [] ∷ sending (0xCA ∷ 0xFE ∷ []) ∷ []

abbrev pub afterwards : List SerialCall
afterwards =
    ending (request Draft false)
    ∷ ending (request Draft false)
    ∷ sending (replicate 251 0)
    ∷ sending (replicate 252 0)
    ∷ sending []
    ∷ ending (configuration Draft false)
    ∷ resetting
    ∷ ending (configuration Draft true)
    ∷ []

abbrev pub larger : Held
larger = record { state = former.state; store = replicate 300 0xFF }

abbrev pub in_loans : List Loan
in_loans =
    loan (sending []) 255
    ∷ loan resetting 0
    ∷ loan (sending (0xA1 ∷ 0x05 ∷ [])) 300
    ∷ loan (sending (0x42 ∷ [])) 255
    ∷ loan (sending (0x42 ∷ 0xCA ∷ 0xFE ∷ [])) 256
    ∷ loan (ending (request Draft false)) 255
    ∷ loan (ending (request Draft false)) 299
    ∷ loan (ending (request Draft false)) 0
    ∷ loan (ending (request Draft false)) 256
    ∷ []

abbrev pub with_role2 : Version → List SerialCall
with_role2 v = resetting ∷ sending (0xA2 ∷ 0x01 ∷ 0x02 ∷ []) ∷ sending (0x05 ∷ 0x42 ∷ 0xCA ∷ 0xFE ∷ []) ∷ ending (request v false) ∷ []

pub record SerialExamples : Type 0 where
  pub before : verdict_in (told (sending []) former) ≡ Err Long
  pub parts : verdicts (answers in_parts former) ≡ replicate 5 (Ok tt)
  pub whole : told (ending (request Draft false)) (left_by in_parts former)
      ≡ join_request (read_request (0xA1 ∷ 0x05 ∷ 0x42 ∷ 0xCA ∷ 0xFE ∷ []))
  pub then :
      verdicts (answers afterwards (left_by in_parts former)) ≡
      (Ok tt) ∷ Err Phase ∷ Err Phase ∷ Err Long ∷ Err Long ∷ Err Long ∷ Ok tt ∷ Err Cut ∷ []
  pub lent :
      verdicts (loan_answers in_loans larger) ≡
      Err Range ∷ Ok tt ∷ Ok tt ∷ Err Range ∷ Ok tt ∷ Err Range ∷ Ok tt ∷ Err Range ∷ Err Phase ∷ []
  pub draft : verdicts (answers (with_role2 Draft) former) ≡ Ok tt ∷ Ok tt ∷ Ok tt ∷ Err Role ∷ []
  pub published : verdicts (answers (with_role2 Published) former) ≡ replicate 4 (Ok tt)
