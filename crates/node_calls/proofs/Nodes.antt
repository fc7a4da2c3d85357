-- What each node call answers is what `perform` says of it.
use Rattle.std.specs.Prelude.{Result, Ok, Err}
use Prim.Native.Nat.{ℕ, zero, suc, ◌<◌, ◌≤◌}
use mathlib.Core.Path.{◌≡◌, refl, ap, ap₂, sym, ◌∙◌}
use mathlib.Core.Bool.{Bool, true, false, ◌&&◌, and-false}
use mathlib.Core.List.{List}
use borrow.Author.Tests.{ne_eqb, le-leb, lt-leb}
use lib.Dec.{leb}
use lib.ListN.{length, replicate}
use Rattle.refusal.specs.Refusal.{number_of}
use Rattle.refusal.specs.Verdict.{verdict_number}
use Rattle.refusal.specs.declared.Refusal.{Refusal}
use Rattle.refusal.specs.declared.Refusal.TheVariants.{Range}
use Rattle.refusal.specs.Verdict.{Verdict}
use Rattle.image.specs.Effects.{on_accept}
use Rattle.image.proofs.Lent.{hands-told}
use Rattle.image.specs.Part.{is_image}
use Rattle.cojp.specs.Octets.{copied_from}
use Rattle.protocol_version.specs.declared.Version.{Version}
use Rattle.protocol_version.specs.declared.Version.TheVariants.{Draft, Published}
use Rattle.node.specs.Delivery.{deliver}
use Rattle.node.specs.Frames.{send, send_counter, after_send, verified}
use Rattle.node.specs.Lease.{holds, holding_verdict, holding_number}
use Rattle.node.specs.Node.{made}
use Rattle.node.specs.declared.node.MakeResult.{MakeResult}
use Rattle.node.specs.Timing.{StartDid, poll}
use Rattle.node.specs.declared.delivery.DeliveryResult.{DeliveryResult}
use Rattle.node.specs.declared.lease.LeaseStatus.{LeaseStatus}
use Rattle.node.specs.declared.lease.LeaseStatus.TheVariants as holding
use Rattle.node.specs.declared.node.Node.{Node}
use Rattle.node.specs.declared.timing.StartResult.{StartResult}
use Rattle.node_attempt.specs.Poll.{due_verdict}
use Rattle.node_attempt.specs.declared.poll.Due.{Due}
use Rattle.node_attempt.specs.declared.poll.Due.TheVariants as due
use Rattle.node_attempt.specs.declared.delivery.Delivery.{Delivery}
use Rattle.node_image.specs.Answers.{dispositions_image}
use Rattle.node_image.specs.Node.{node_image}
use Rattle.node_image.specs.Version.{version_of}
use Rattle.node_key_sets.specs.Frames.{change_verdict}
use Rattle.node_key_sets.specs.declared.frames.Change.{Change}
use Rattle.node_key_sets.specs.declared.frames.Change.TheVariants as change
use Rattle.node_laws.specs.Calls as calls
use Rattle.node_laws.specs.Calls.{perform, due_object, holding_object, change_object, Demand1}
use Rattle.node_parameters.specs.Octets.{absent_octets}
use Rattle.node_parameters.specs.declared.octets.HeldOctets.{HeldOctets}
use Rattle.node_calls.specs.Calls.{network_of, made_of, Makes, Tells, Does, Starts, Gives, Changes}
use Rattle.node_calls.specs.Results.{due_code, lease_status_code, change_code, value_of}
use Rattle.node_calls.proofs.Answers.{tells_none, does-none, tells, does, starts, changes}
use Rattle.capi_node.specs.Calls.{node_in, due_in, holds_in, change_in, ReceivesIn, SendsIn}

-- ---- codes
due-value : (d : Result Due Refusal) → due_code d ≡ value_of (due_object d)
due-value (Err k) = refl
due-value (Ok due.NotYet) = refl
due-value (Ok due.SendAgain) = refl
due-value (Ok due.GaveUp) = refl

holding-value : (h : Result LeaseStatus Refusal) → lease_status_code h ≡ value_of (holding_object h)
holding-value (Err k) = refl
holding-value (Ok holding.Valid) = refl
holding-value (Ok holding.Expired) = refl

holding-number : (h : Result LeaseStatus Refusal) → holding_number h ≡ verdict_number (holding_verdict h)
holding-number (Err k) = refl
holding-number (Ok holding.Valid) = refl
holding-number (Ok holding.Expired) = refl

change-value : (c : Result Change Refusal) → change_code c ≡ value_of (change_object c)
change-value (Err k) = refl
change-value (Ok change.Switched) = refl
change-value (Ok change.Kept) = refl

pub holding-refused : (h : Result LeaseStatus Refusal) (k : Refusal) {r : ℕ} → h ≡ Err k → r ≡ number_of k
    → (r ≡ holding_number h) × (0 ≡ lease_status_code h)
holding-refused h k e f = rw e (f, refl)

-- ---- a node is made
module _ (x : List ℕ) (has : ℕ) where
  pub no-network : {h : HeldOctets} → has ≡ 0 → h ≡ absent_octets → h ≡ network_of has x
  no-network e f = rw e f

  pub a-network : {b : List ℕ} → ¬ (has ≡ 0) → b ≡ copied_from x 0 (length x)
      → ◌≡◌ {A = HeldOctets} (record { held = true; value = record { len = length x; bytes = b } }) (network_of has x)
  a-network e f = rw (ne_eqb has 0 e, f)

module _ (form role has : ℕ) (x : List ℕ) {h : HeldOctets} {m : MakeResult} (held : h ≡ network_of has x) where
  pub made-draft : form ≡ 0 → m ≡ made Draft role h → m ≡ made_of form role has x
  made-draft e f = f ∙ ap₂ (λ (v : Version) (y : HeldOctets). made v role y) (sym (ap version_of e)) held

  pub made-published : ¬ (form ≡ 0) → m ≡ made Published role h → m ≡ made_of form role has x
  made-published e f = f ∙ ap₂ (λ (v : Version) (y : HeldOctets). made v role y) (published form e) held
    where
      published : (n : ℕ) → ¬ (n ≡ 0) → Published ≡ version_of n
      published zero e = absurd (e refl)
      published (suc n) e = refl

module _ (form has : ℕ) where
  pub other-form : 1 < form → (leb form 1 && leb has 1) ≡ false
  other-form h = rw (lt-leb form 1 h)

  pub other-flag : 1 < has → (leb form 1 && leb has 1) ≡ false
  other-flag h = rw (lt-leb has 1 h) (and-false (leb form 1))

pub node_made : (form role has : ℕ) (x s : List ℕ) (m : MakeResult) {r : ℕ} {s' : List ℕ} → length s ≡ 878 → form ≤ 1 → has ≤ 1
    → m ≡ made_of form role has x → r ≡ verdict_number m.verdict → s' ≡ on_accept m.verdict (replicate 878 0) (node_image.put m.node)
    → Makes form role has x s r s'
node_made form role has x s m long h k says e f =
    hands-told 878 (leb form 1 && leb has 1) (made_of form role has x).verdict (node_image.put (made_of form role has x).node) s long
    (rw (le-leb form 1 h, le-leb has 1 k))
    (e ∙ ap (λ (y : MakeResult). verdict_number y.verdict) says)
    (f ∙ ap (λ (y : MakeResult). on_accept y.verdict (replicate 878 0) (node_image.put y.node)) says)

-- ---- the node that was loaded is the one in the image
pub start-as : {n m : Node} {time timeout : ℕ} {d d' : List ℕ} {r : StartResult} → n ≡ m → StartDid n time timeout d r d'
    → StartDid m time timeout d r d'
start-as e did = rw e at did

module _ (s : List ℕ) (image : is_image node_image s ≡ true) where
  abbrev In : Node
  In = node_image.get s

  module _ (demand1 : Demand1) where
    pub started : (time timeout : ℕ) (d d' : List ℕ) (x : StartResult) {r : ℕ} {s' : List ℕ} → StartDid In time timeout d x d'
        → r ≡ verdict_number x.verdict → s' ≡ on_accept x.verdict s (node_image.put x.node)
        → Starts time timeout s d r s' d' x.length
    unfolding perform
    started time timeout d d' x did e f =
        let c = calls.starting time timeout d in
        starts time timeout s d demand1 image
        (does c s demand1 image
        (e ∙ ap (λ (y : StartResult). verdict_number y.verdict) did.says)
        (f ∙ ap (λ (y : StartResult). on_accept y.verdict s (node_image.put y.node)) did.says)
        (ap (λ (y : StartResult). y.length) did.says))
        did.holds

  module _ (w : List ℕ) where
    pub delivered : (d : Delivery) (time : ℕ) (payload : List ℕ) (x : DeliveryResult) {r : ℕ} {s' w' : List ℕ} → length w ≡ 17
        → x ≡ deliver d In time payload → r ≡ verdict_number x.verdict → s' ≡ on_accept x.verdict s (node_image.put x.node)
        → w' ≡ on_accept x.verdict (replicate 17 0) (dispositions_image.put x.dispositions)
        → Changes 17 (calls.delivering d time payload) s w r s' w'
    unfolding perform
    delivered d time payload x long says e f g =
        changes 17 (calls.delivering d time payload) s w long image
        (e ∙ ap (λ (y : DeliveryResult). verdict_number y.verdict) says)
        (f ∙ ap (λ (y : DeliveryResult). on_accept y.verdict s (node_image.put y.node)) says)
        (g ∙ ap (λ (y : DeliveryResult). on_accept y.verdict (replicate 17 0) (dispositions_image.put y.dispositions)) says)

-- ---- calls on the image: RANGE where there is none, else the node's own answer
module _ (demand1 : Demand1) (s : List ℕ) where
  module _ (time : ℕ) where
    polled-by : (b : Bool) → is_image node_image s ≡ b → (x : Result Due Refusal) {v : Verdict} {r w : ℕ} {s' : List ℕ} → x ≡ due_in s time
        → v ≡ due_verdict x → w ≡ due_code x → r ≡ verdict_number v → s' ≡ on_accept (due_verdict x) s (node_image.put (poll (node_in s) time).node)
        → Does (calls.polling time) s r s' w
    unfolding perform
    polled-by true image x says e g f h =
        let own : x ≡ (poll (node_in s) time).due = says ∙ rw image in
        does (calls.polling time) s demand1 image
        (f ∙ ap verdict_number (e ∙ ap due_verdict own))
        (h ∙ ap (λ (y : Result Due Refusal). on_accept (due_verdict y) s (node_image.put (poll (node_in s) time).node)) own)
        (g ∙ ap due_code own ∙ due-value (poll (node_in s) time).due)
    polled-by false image x says e g f h =
        let none : x ≡ Err Range = says ∙ rw image in
        rw (
          f ∙ ap verdict_number (e ∙ ap due_verdict none),
          g ∙ ap due_code none,
          h ∙ ap (λ (y : Result Due Refusal). on_accept (due_verdict y) s (node_image.put (poll (node_in s) time).node)) none,
        )
        (does-none (calls.polling time) s image)

    pub polled : (x : Result Due Refusal) {v : Verdict} {r w : ℕ} {s' : List ℕ} → x ≡ due_in s time → v ≡ due_verdict x → w ≡ due_code x
        → r ≡ verdict_number v → s' ≡ on_accept (due_verdict x) s (node_image.put (poll (node_in s) time).node) → Does (calls.polling time) s r s' w
    polled x = polled-by (is_image node_image s) refl x

    asked_by : (b : Bool) → is_image node_image s ≡ b → (x : Result LeaseStatus Refusal) {r w : ℕ} → x ≡ holds_in s time → r ≡ holding_number x
        → w ≡ lease_status_code x → Tells (calls.asking time) s r w
    unfolding perform
    asked_by true image x says f g =
        let own : x ≡ holds (node_in s) time = says ∙ rw image in
        tells (calls.asking time) s demand1 image
        (f ∙ ap holding_number own ∙ holding-number (holds (node_in s) time))
        (g ∙ ap lease_status_code own ∙ holding-value (holds (node_in s) time))
    asked_by false image x says f g =
        let none : x ≡ Err Range = says ∙ rw image in
        rw (f ∙ ap holding_number none, g ∙ ap lease_status_code none) (tells_none (calls.asking time) s image)

    pub asked : (x : Result LeaseStatus Refusal) {r w : ℕ} → x ≡ holds_in s time → r ≡ holding_number x → w ≡ lease_status_code x
        → Tells (calls.asking time) s r w
    asked x = asked_by (is_image node_image s) refl x

  module _ (type identifier : ℕ) where
    abbrev reported_node : List ℕ
    reported_node = node_image.put (verified (node_in s) type identifier).node

    reported-by : (b : Bool) → is_image node_image s ≡ b → (x : Result Change Refusal) {v : Verdict} {r w : ℕ} {s' : List ℕ}
        → x ≡ change_in s type identifier → v ≡ change_verdict x → w ≡ change_code x → r ≡ verdict_number v
        → s' ≡ on_accept (change_verdict x) s reported_node
        → Does (calls.reporting type identifier) s r s' w
    unfolding perform
    reported-by true image x says e g f h =
        let own : x ≡ (verified (node_in s) type identifier).change = says ∙ rw image in
        does (calls.reporting type identifier) s demand1 image
        (f ∙ ap verdict_number (e ∙ ap change_verdict own))
        (h ∙ ap (λ (y : Result Change Refusal). on_accept (change_verdict y) s reported_node) own)
        (g ∙ ap change_code own ∙ change-value (verified (node_in s) type identifier).change)
    reported-by false image x says e g f h =
        let none : x ≡ Err Range = says ∙ rw image in
        rw (
          f ∙ ap verdict_number (e ∙ ap change_verdict none),
          g ∙ ap change_code none,
          h ∙ ap (λ (y : Result Change Refusal). on_accept (change_verdict y) s reported_node) none,
        )
        (does-none (calls.reporting type identifier) s image)

    pub reported : (x : Result Change Refusal) {v : Verdict} {r w : ℕ} {s' : List ℕ} → x ≡ change_in s type identifier → v ≡ change_verdict x
        → w ≡ change_code x
        → r ≡ verdict_number v → s' ≡ on_accept (change_verdict x) s reported_node → Does (calls.reporting type identifier) s r s' w
    reported x = reported-by (is_image node_image s) refl x

pub sent : (type : ℕ) (s w : List ℕ) {r : ℕ} {s' w' : List ℕ} → SendsIn type s w r s' w' → Changes 33 (calls.sending type) s w r s' w'
unfolding perform send send_counter after_send
sent type s w x = record { gives = x.gives; node = x.node }

pub received : (type identifier : ℕ) (s w : List ℕ) {r : ℕ} {w' : List ℕ} → ReceivesIn type identifier s w r w'
    → Gives 33 (calls.receiving type identifier) s w r w'
unfolding perform
received type identifier s w x = x
