-- One call from C does to the image what the node's own call does to the node: the node is loaded as it was stored, and has an image again
-- after every call. Zeros are no image, so every call but a make is RANGE on them.
use Rattle.std.specs.Prelude.{Result, Ok, Err}
use Rattle.refusal.specs.declared.Refusal.{Refusal}
use Prim.Native.Nat.{ℕ, zero, suc}
use mathlib.Core.Path.{◌≡◌, refl, ap, ap₂, sym, ◌∙◌, subst}
use mathlib.Core.Bool.{Bool, true, false, ◌&&◌}
use mathlib.Core.List.{List, []}
use native.Mathlib.Omega.{arith}
use borrow.Author.Tests.{lt-leb}
use lib.Dec.{leb}
use lib.ListN.{length, replicate}
use Rattle.refusal.specs.Verdict.{verdict_number}
use Rattle.refusal.specs.declared.Refusal.TheVariants.{Range}
use Rattle.refusal.specs.Verdict.{Verdict}
use Rattle.image.specs.Effects.{on_accept, checked_first}
use Rattle.image.proofs.Lent.{then-not, then-so}
use Rattle.image.specs.Part.{RoundTrips, is_image}
use Rattle.node.specs.Frames.{verified}
use Rattle.node.specs.Lease.{holds}
use Rattle.node.specs.Node.{unmade}
use Rattle.node.specs.Timing.{poll}
use Rattle.node.specs.declared.lease.LeaseStatus.{LeaseStatus}
use Rattle.node.specs.declared.lease.LeaseStatus.TheVariants as holding
use Rattle.node.specs.declared.node.MakeResult.{MakeResult}
use Rattle.node.specs.declared.node.Node.{Node}
use Rattle.node_attempt.specs.declared.poll.Due.{Due}
use Rattle.node_attempt.specs.declared.poll.Due.TheVariants as due
use Rattle.node_image.specs.Node.{node_image}
use Rattle.node_key_sets.specs.declared.frames.Change.{Change}
use Rattle.node_key_sets.specs.declared.frames.Change.TheVariants as change
use Rattle.node_laws.specs.Calls.{NodeCall, starting, polling, delivering, asking, sending, receiving, reporting}
use Rattle.node_laws.specs.Calls.{due_object, holding_object, change_object, empty_object, lent_to, perform, Demand1}
use Rattle.node_calls.specs.Calls.{made_of, performed_in, call_verdict, give_verdict, Tells, Does, Gives}
use Rattle.node_calls.specs.Results.{value_of, struct_of}
use Rattle.node_call_laws.specs.Fits.{Callable, CallsFit}
use Rattle.pothatch_laws.specs.Node.{NodeOutput, node_output, NodeMade, Asked, Changed, Given, CallDid, making, calling}
use Rattle.pothatch_laws.specs.Node.{Call, Did, Held, no_node, node, asked, struct_size, tells, after, shown, NodeRuns}
use Rattle.pothatch_laws.proofs.Following.{Step, runs, runs-from}
use Rattle.pothatch_laws.proofs.Handing.{right-number, right-result, wrong-number, wrong_result}
use Rattle.pothatch_laws.proofs.Images.{put-long, put_is, put-got, got-fits, got-put}

-- ---- the struct s stands for a node, or for none
pub data Stands : Held → List ℕ → Type 0 where
  stored : {n : Node} {s : List ℕ} → node_image.Fit n → s ≡ node_image.put n → Stands (node n) s
  zeros : {s : List ℕ} → s ≡ replicate 878 0 → Stands no_node s

seen : (h : Held) (s : List ℕ) → Stands h s → s ≡ shown h
seen h s (stored f e) = e
seen h s (zeros e) = e

left-same : {A : Type 0} (v : Verdict) (x : A) → on_accept v x x ≡ x
left-same (Ok tt) x = refl
left-same (Err k) x = refl

range-left : {A : Type 0} (v : Verdict) (before after : A) {x : A} → v ≡ Err Range → x ≡ on_accept v before after → x ≡ before
range-left v b a e h = h ∙ ap (λ (u : Verdict). on_accept u b a) e

told-as : (t : NodeOutput) {n v : ℕ} {w d : List ℕ} → t.number ≡ n → t.value ≡ v → t.struct ≡ w → t.lent ≡ d → t ≡ node_output n v w d
told-as t {n} {v} a b e f =
    ap₂ (λ (x y : ℕ). node_output x y t.struct t.lent) a b ∙ ap₂ (λ (x y : List ℕ). node_output n v x y) e f

-- ---- a refused call's value is 0; an answer that is a number is no struct
empty-value : (c : NodeCall) → value_of (empty_object c) ≡ 0
empty-value (starting time timeout d) = refl
empty-value (polling time) = refl
empty-value (delivering delivery time payload) = refl
empty-value (asking time) = refl
empty-value (sending type) = refl
empty-value (receiving type identifier) = refl
empty-value (reporting type identifier) = refl

due-struct : (d : Result Due Refusal) → struct_of (due_object d) ≡ []
due-struct (Err k) = refl
due-struct (Ok due.NotYet) = refl
due-struct (Ok due.SendAgain) = refl
due-struct (Ok due.GaveUp) = refl

holding-struct : (h : Result LeaseStatus Refusal) → struct_of (holding_object h) ≡ []
holding-struct (Err k) = refl
holding-struct (Ok holding.Valid) = refl
holding-struct (Ok holding.Expired) = refl

change-struct : (h : Result Change Refusal) → struct_of (change_object h) ≡ []
change-struct (Err k) = refl
change-struct (Ok change.Switched) = refl
change-struct (Ok change.Kept) = refl

-- ---- a call that finds none
module _ (c : NodeCall) (s : List ℕ) (e : s ≡ replicate 878 0) where
  none : is_image node_image s ≡ false
  none = ap (is_image node_image) e

  none-verdict : call_verdict c s ≡ Err Range
  none-verdict = ap (λ (b : Bool). checked_first b (performed_in c s).verdict) none

  module _ (t : NodeOutput) (s' : List ℕ) where
    none-step : t.number ≡ 13 → t.value ≡ 0 → t.struct ≡ replicate (struct_size c) 0 → t.lent ≡ lent_to c → s' ≡ s
        → Step tells after Stands (calling c) no_node t s'
    none-step a b g h i = record { same = told-as t a b g h; stands = zeros (i ∙ e) }

    none-asked : struct_size c ≡ 0 → t.struct ≡ [] → t.lent ≡ lent_to c → s' ≡ s → Tells c s t.number t.value
        → Step tells after Stands (calling c) no_node t s'
    none-asked k h g i d =
        none-step (d.number ∙ ap verdict_number none-verdict)
        (range-left (call_verdict c s) 0 (value_of (performed_in c s).object) none-verdict d.value)
        (rw k h) g i

    none-does : struct_size c ≡ 0 → t.struct ≡ [] → t.lent ≡ lent_to c → Does c s t.number s' t.value
        → Step tells after Stands (calling c) no_node t s'
    none-does k h g d =
        none-asked k h g (range-left (call_verdict c s) s (node_image.put (performed_in c s).node) none-verdict d.node) d.tells

    none-gives : (k : ℕ) (w : List ℕ) → struct_size c ≡ k → length w ≡ k → t.value ≡ 0 → t.lent ≡ lent_to c → s' ≡ s
        → Gives k c s w t.number t.struct
        → Step tells after Stands (calling c) no_node t s'
    none-gives k w z l h g i d = none-step (wrong-number d l none) h (rw z (wrong_result d l none)) g i

    none-changes : (k : ℕ) → struct_size c ≡ k → Changed k c s t s' → Step tells after Stands (calling c) no_node t s'
    none-changes k z d =
        let w = d.before in
        none-gives k w z d.fits d.value d.lent
        (range-left (give_verdict k c s w) s (node_image.put (performed_in c s).node)
        (ap (λ (b : Bool). checked_first b (performed_in c s).verdict) (then-not w k (is_image node_image s) d.fits none))
        d.changes.node)
        d.changes.gives

none-called : (c : NodeCall) (s : List ℕ) (t : NodeOutput) (s' : List ℕ) → s ≡ replicate 878 0 → CallDid c s t s'
    → Step tells after Stands (calling c) no_node t s'
none-called (starting time timeout d) s t s' e w =
    let c = starting time timeout d in
    none-does c s e t s' refl w.struct (range-left (call_verdict c s) d (performed_in c s).lent (none-verdict c s e) w.starts.dst)
    w.starts.does
none-called (polling time) s t s' e w = none-does (polling time) s e t s' refl w.struct w.lent w.does
none-called (delivering delivery time payload) s t s' e w = none-changes (delivering delivery time payload) s e t s' 17 refl w
none-called (asking time) s t s' e w = none-asked (asking time) s e t s' refl w.struct w.lent w.image w.tells
none-called (sending type) s t s' e w = none-changes (sending type) s e t s' 33 refl w
none-called (receiving type identifier) s t s' e w =
    none-gives (receiving type identifier) s e t s' 33 w.before refl w.fits w.value w.lent w.image w.gives
none-called (reporting type identifier) s t s' e w = none-does (reporting type identifier) s e t s' refl w.struct w.lent w.does

-- ---- a make
data Asks (form role has : ℕ) (x : List ℕ) : Type 0 where
  for-node : (leb form 1 && leb has 1) ≡ true → made_of form role has x ≡ asked form role has x → Asks form role has x
  for-none : (leb form 1 && leb has 1) ≡ false → asked form role has x ≡ unmade → Asks form role has x

asks : (form role has : ℕ) (x : List ℕ) → Asks form role has x
asks zero role zero x = for-node refl refl
asks zero role (suc zero) x = for-node refl refl
asks zero role (suc (suc n)) x = for-none (lt-leb (suc (suc n)) 1 (omega arith)) refl
asks (suc zero) role zero x = for-node refl refl
asks (suc zero) role (suc zero) x = for-node refl refl
asks (suc zero) role (suc (suc n)) x = for-none (lt-leb (suc (suc n)) 1 (omega arith)) refl
asks (suc (suc f)) role has x = for-none (rw (lt-leb (suc (suc f)) 1 (omega arith))) refl

made-stands : (v : Verdict) (n : Node) (s' : List ℕ) → node_image.Fit n → s' ≡ on_accept v (replicate 878 0) (node_image.put n)
    → Stands (on_accept v no_node (node n)) s'
made-stands (Ok tt) n s' f e = stored f e
made-stands (Err k) n s' f e = zeros e

-- what a make comes to, where it asks for m
abbrev MadeSo : ℕ → List ℕ → MakeResult → Type 0
MadeSo r s' m = (r ≡ verdict_number m.verdict) × Stands (on_accept m.verdict no_node (node m.node)) s'

module _ (follow : CallsFit) (form role has : ℕ) (x s : List ℕ) (t : NodeOutput) (s' : List ℕ) (l : length s ≡ 878)
    (d : NodeMade form role has x s t s') where
  made_so : Asks form role has x → MadeSo t.number s' (asked form role has x)
  made_so (for-node e g) =
      let m = made_of form role has x in
      subst (MadeSo t.number s') g (
        right-number d.makes l e,
        made-stands m.verdict m.node s' (follow.made-fits form role has x d.bytes) (right-result d.makes l e),
      )
  made_so (for-none e g) = subst (MadeSo t.number s') (sym g) (wrong-number d.makes l e, zeros (wrong_result d.makes l e))

  made-step : (h : Held) → Step tells after Stands (making form role has x) h t s'
  made-step h =
      let p = made_so (asks form role has x) in
      record { same = told-as t p.0 d.value d.struct d.lent; stands = p.1 }

module _ (demand1 : Demand1) (follow : CallsFit) (lawful : RoundTrips node_image) where
  -- ---- a call that finds the image of a node
  module _ (c : NodeCall) (n : Node) (s : List ℕ) (can : Callable c) (f : node_image.Fit n) (e : s ≡ node_image.put n) where
    is : is_image node_image s ≡ true
    is = ap (is_image node_image) e ∙ put_is node_image lawful n f

    got : node_image.get s ≡ n
    got = ap node_image.get e ∙ put-got node_image lawful n f

    verdict-so : (performed_in c s).verdict ≡ (perform c n).verdict
    verdict-so = ap (λ (m : Node). (perform c m).verdict) got

    call-so : call_verdict c s ≡ (perform c n).verdict
    call-so = ap (λ (b : Bool). checked_first b (performed_in c s).verdict) is ∙ verdict-so

    value-left : (v : Verdict) → (perform c n).verdict ≡ v → on_accept v 0 (value_of (perform c n).object) ≡ value_of (perform c n).object
    value-left (Ok tt) h = refl
    value-left (Err k) h = sym (ap value_of (demand1.calls c n k h).object ∙ empty-value c)

    image-left : (v : Verdict) → (perform c n).verdict ≡ v
        → on_accept v s (node_image.put (perform c n).node) ≡ node_image.put (perform c n).node
    image-left (Ok tt) h = refl
    image-left (Err k) h = e ∙ ap node_image.put (sym (demand1.calls c n k h).node)

    lent-left : (v : Verdict) → (perform c n).verdict ≡ v → on_accept v (lent_to c) (perform c n).lent ≡ (perform c n).lent
    lent-left (Ok tt) h = refl
    lent-left (Err k) h = sym (demand1.calls c n k h).lent

    told-value : {r v : ℕ} → Tells c s r v → v ≡ value_of (perform c n).object
    told-value d =
        d.value
        ∙ ap₂ (λ (u : Verdict) (m : Node). on_accept u 0 (value_of (perform c m).object)) call-so got
        ∙ value-left (perform c n).verdict refl

    told-number : {r v : ℕ} → Tells c s r v → r ≡ verdict_number (perform c n).verdict
    told-number d = d.number ∙ ap verdict_number call-so

    stays : {s' : List ℕ} → s' ≡ node_image.put (perform c n).node → Stands (node (perform c n).node) s'
    stays g = stored (follow.keeps-fit c n can f) g

    -- what is stored by a verdict u that is the call's
    kept-as : {s' : List ℕ} (u : Verdict) → u ≡ (perform c n).verdict → s' ≡ on_accept u s (node_image.put (performed_in c s).node)
        → Stands (node (perform c n).node) s'
    kept-as u g h =
        stays
        (h
        ∙ ap₂ (λ (w : Verdict) (m : Node). on_accept w s (node_image.put (perform c m).node)) g got
        ∙ image-left (perform c n).verdict refl)

    dst-as : {d' : List ℕ} → d' ≡ on_accept (call_verdict c s) (lent_to c) (performed_in c s).lent → d' ≡ (perform c n).lent
    dst-as h =
        h
        ∙ ap₂ (λ (w : Verdict) (m : Node). on_accept w (lent_to c) (perform c m).lent) call-so got
        ∙ lent-left (perform c n).verdict refl

    no-struct : struct_size c ≡ 0 → struct_of (perform c n).object ≡ []
        → [] ≡ on_accept (perform c n).verdict (replicate (struct_size c) 0) (struct_of (perform c n).object)
    no-struct h g = rw (h, g) (sym (left-same (perform c n).verdict []))

    module _ (t : NodeOutput) (s' : List ℕ) where
      does-step : struct_size c ≡ 0 → struct_of (perform c n).object ≡ [] → t.lent ≡ (perform c n).lent → t.struct ≡ []
          → Does c s t.number s' t.value → Step tells after Stands (calling c) (node n) t s'
      does-step k o g h d =
          record {
            same = told-as t (told-number d.tells) (told-value d.tells) (h ∙ no-struct k o) g;
            stands = kept-as (call_verdict c s) call-so d.node;
          }

      ask-step : struct_size c ≡ 0 → struct_of (perform c n).object ≡ [] → (perform c n).lent ≡ lent_to c → (perform c n).node ≡ n
          → Asked c s t s' → Step tells after Stands (calling c) (node n) t s'
      ask-step k o g h d =
          record {
            same = told-as t (told-number d.tells) (told-value d.tells) (d.struct ∙ no-struct k o) (d.lent ∙ sym g);
            stands = stays (d.image ∙ e ∙ ap node_image.put (sym h));
          }

      gives_same : (k : ℕ) (w : List ℕ) → struct_size c ≡ k → length w ≡ k → value_of (perform c n).object ≡ 0 → (perform c n).lent ≡ lent_to c
          → Gives k c s w t.number t.struct → t.value ≡ 0 → t.lent ≡ lent_to c → t ≡ tells (calling c) (node n)
      gives_same k w z l o g d h i =
          told-as t (right-number d l is ∙ ap verdict_number verdict-so) (h ∙ sym o)
          (right-result d l is
          ∙ ap (λ (m : Node). on_accept (perform c m).verdict (replicate k 0) (struct_of (perform c m).object)) got
          ∙ ap (λ (j : ℕ). on_accept (perform c n).verdict (replicate j 0) (struct_of (perform c n).object)) (sym z))
          (i ∙ sym g)

      change-step : (k : ℕ) → struct_size c ≡ k → value_of (perform c n).object ≡ 0 → (perform c n).lent ≡ lent_to c → Changed k c s t s'
          → Step tells after Stands (calling c) (node n) t s'
      change-step k z o g d =
          let w = d.before in
          record {
            same = gives_same k w z d.fits o g d.changes.gives d.value d.lent;
            stands =
                kept-as (give_verdict k c s w)
                (ap (λ (b : Bool). checked_first b (performed_in c s).verdict) (then-so w k (is_image node_image s) d.fits is) ∙ verdict-so)
                d.changes.node;
          }

      give-step : (k : ℕ) → struct_size c ≡ k → value_of (perform c n).object ≡ 0 → (perform c n).lent ≡ lent_to c → (perform c n).node ≡ n
          → Given k c s t s' → Step tells after Stands (calling c) (node n) t s'
      give-step k z o g h d =
          record {
            same = gives_same k d.before z d.fits o g d.gives d.value d.lent;
            stands = stays (d.image ∙ e ∙ ap node_image.put (sym h));
          }

  -- ---- any call, and then lists
  called : (c : NodeCall) (n : Node) (s : List ℕ) (t : NodeOutput) (s' : List ℕ) → Callable c → node_image.Fit n → s ≡ node_image.put n
      → CallDid c s t s' → Step tells after Stands (calling c) (node n) t s'
  unfolding perform
  called (starting time timeout d) n s t s' can f e w =
      let c = starting time timeout d in
      does-step c n s can f e t s' refl refl (dst-as c n s can f e w.starts.dst) w.struct
      w.starts.does
  called (polling time) n s t s' can f e w =
      does-step (polling time) n s can f e t s' refl (due-struct (poll n time).due) w.lent w.struct w.does
  called (delivering delivery time payload) n s t s' can f e w =
      change-step (delivering delivery time payload) n s can f e t s' 17 refl refl refl w
  called (asking time) n s t s' can f e w =
      ask-step (asking time) n s can f e t s' refl (holding-struct (holds n time)) refl refl w
  called (sending type) n s t s' can f e w = change-step (sending type) n s can f e t s' 33 refl refl refl w
  called (receiving type identifier) n s t s' can f e w =
      give-step (receiving type identifier) n s can f e t s' 33 refl refl refl refl w
  called (reporting type identifier) n s t s' can f e w =
      does-step (reporting type identifier) n s can f e t s' refl (change-struct (verified n type identifier).change) w.lent
      w.struct w.does

  stands-long : (h : Held) (s : List ℕ) → Stands h s → length s ≡ 878
  stands-long h s (stored {n = n} f e) = ap length e ∙ put-long node_image lawful n f
  stands-long h s (zeros e) = ap length e

  step : (c : Call) (h : Held) (s : List ℕ) (t : NodeOutput) (s' : List ℕ) → Stands h s → Did c s t s' → Step tells after Stands c h t s'
  step (making form role has x) h s t s' a d = made-step follow form role has x s t s' (stands-long h s a) d h
  step (calling c) h s t s' (stored {n = n} f e) d = called c n s t s' d.callable f e d.did
  step (calling c) h s t s' (zeros e) d = none-called c s t s' e d.did

  pub node-runs : NodeRuns
  node-runs =
      record {
        from-make = λ form role has x cs h s ts z l r.
            runs-from Did tells after Stands shown seen step (making form role has x) cs h s ts z
            (λ t s' d. made-step follow form role has x s t s' l d h)
            r;
        from-image = λ cs s ts z b i r.
            runs Did tells after Stands shown seen step cs (node (node_image.get s)) s ts z
            (stored (got-fits node_image lawful s b i) (sym (got-put node_image lawful s b i)))
            r;
      }
