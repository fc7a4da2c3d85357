-- A node's fields stand one after the other, each as many bytes after the one before as that has.
use Prim.Native.Nat.{ℕ}
use mathlib.Core.Bool.{Bool, true, false, ◌&&◌}
use mathlib.Core.List.{List, [], ◌∷◌, ◌++◌}
use mathlib.Core.Path.{◌≡◌, refl, ap, sym, ◌∙◌}
use lib.Dec.{eqb}
use lib.ListN.{length, drop}
use lib.Seq.{drop-drop}
use Rattle.byte_io.specs.Write.{Wrote}
use Rattle.image.specs.Fields.{whole-struct, four-fields}
use Rattle.image.specs.Part.{both, is_headed, is_image}
use Rattle.node.specs.declared.node.Node.{Node}
use Rattle.object_image.specs.Codes.{bool_part}
use Rattle.node_image.specs.PlaceLemmas.{next-good, not_good, held-good, then-good, then-not, pair-good, pair-not}
use Rattle.node_image.specs.Attempt.{attempt_part}
use Rattle.node_image.specs.Held.{held_address_part, held_octets_part, held_list_part}
use Rattle.node_image.specs.Node.{sets_part, form_fields, held_fields}
use Rattle.node_image.specs.Node.{node_fields, held_of, node_image}
use Rattle.node_image.specs.NodeLemmas.{after_list, after_version, after_network, after_jrc, after_address}
use Rattle.node_image.specs.Version.{version_part}

module _ (s : List ℕ) where
  abbrev is_bool : ℕ → Bool
  is_bool at = bool_part.good (drop at s)

  -- ---- the form and what belongs to it is judged: a value that is held or not is good, and so are faults
  module _ {v : Bool} (e : v ≡ version_part.good (drop 601 s)) where
    pub no-form : v ≡ false → false ≡ form_fields.good (drop 601 s)
    no-form t = not_good version_part after_version s 601 602 refl e t

    module _ {x : Bool} (t : v ≡ true) (f : x ≡ is_bool 602) where
      pub form-not : x ≡ false → false ≡ form_fields.good (drop 601 s)
      form-not u = next-good version_part after_version s 601 602 refl e t (not_good held_list_part after_list s 602 858 refl (held-good f) u)

      pub form-good : {y : Bool} → x ≡ true → y ≡ is_bool 858 → y ≡ form_fields.good (drop 601 s)
      form-good u g =
          next-good version_part after_version s 601 602 refl e t
          (next-good held_list_part after_list s 602 858 refl (held-good f) u (held-good (held-good g)))

  -- ---- what a node holds besides
  module _ {a : Bool} (e : a ≡ held_address_part.good (drop 527 s)) where
    pub no_address : a ≡ false → false ≡ held_fields.good (drop 527 s)
    no_address t = not_good held_address_part after_address s 527 547 refl e t

    module _ {x : Bool} (t : a ≡ true) (f : x ≡ is_bool 547) where
      pub no-jrc : x ≡ false → false ≡ held_fields.good (drop 527 s)
      no-jrc u = next-good held_address_part after_address s 527 547 refl e t (not_good held_octets_part after_jrc s 547 565 refl (held-good f) u)

      module _ {y : Bool} (u : x ≡ true) (g : y ≡ is_bool 565) where
        so_far : {z : Bool} → z ≡ after_jrc.good (drop 565 s) → z ≡ held_fields.good (drop 527 s)
        so_far h =
            next-good held_address_part after_address s 527 547 refl e t
            (next-good held_octets_part after_jrc s 547 565 refl (held-good f) u h)

        pub no-network : y ≡ false → false ≡ held_fields.good (drop 527 s)
        no-network w = so_far (not_good held_octets_part after_network s 565 583 refl (held-good g) w)

        module _ {z : Bool} (w : y ≡ true) (h : z ≡ is_bool 583) where
          next : {o : Bool} → o ≡ after_network.good (drop 583 s) → o ≡ held_fields.good (drop 527 s)
          next i = so_far (next-good held_octets_part after_network s 565 583 refl (held-good g) w i)

          pub no-prefix : z ≡ false → false ≡ held_fields.good (drop 527 s)
          no-prefix k = next (not_good held_octets_part form_fields s 583 601 refl (held-good h) k)

          pub held-fields : {o : Bool} → z ≡ true → o ≡ form_fields.good (drop 601 s) → o ≡ held_fields.good (drop 527 s)
          held-fields k i = next (next-good held_octets_part form_fields s 583 601 refl (held-good h) k i)

  -- ---- the node
  abbrev Head : Bool
  Head = (eqb (length s) 878 && is_headed 0x4e s)

  -- the role is good, whatever it is
  after-role : {x : Bool} → x ≡ (both attempt_part (both sets_part held_fields)).good (drop 3 s) → x ≡ node_fields.good (drop 2 s)
  after-role e = e ∙ ap (both attempt_part (both sets_part held_fields)).good (sym (drop-drop 1 2 s))

  module _ {h : Bool} (e : h ≡ Head) where
    pub no-head : h ≡ false → false ≡ is_image node_image s
    no-head t = then-not (eqb (length s) 878) (is_headed 0x4e s) (node_fields.good (drop 2 s)) e t

    module _ {x : Bool} (t : h ≡ true) (f : x ≡ (both attempt_part sets_part).good (drop 3 s)) where
      pub no-state : x ≡ false → false ≡ is_image node_image s
      no-state u =
          then-good (eqb (length s) 878) (is_headed 0x4e s) (node_fields.good (drop 2 s)) e t
          (after-role (pair-not attempt_part sets_part held_fields s 3 527 refl f u))

      pub node-good : {y : Bool} → x ≡ true → y ≡ held_fields.good (drop 527 s) → y ≡ is_image node_image s
      node-good u g =
          then-good (eqb (length s) 878) (is_headed 0x4e s) (node_fields.good (drop 2 s)) e t
          (after-role (pair-good attempt_part sets_part held_fields s 3 527 refl f u g))

-- ---- written
pub node-stored : (n : Node) {d d' : List ℕ} → length d ≡ 878
    → Wrote (((((0x4e ∷ 1 ∷ []) ++ (n.role ∷ [])) ++ attempt_part.put n.attempt) ++ sets_part.put n.sets)
    ++ held_fields.put (held_of n)) d 878 d'
    → d' ≡ node_image.put n
node-stored n e w =
    whole-struct e w
    ∙ four-fields (0x4e ∷ 1 ∷ []) (n.role ∷ []) (attempt_part.put n.attempt) (sets_part.put n.sets) (held_fields.put (held_of n))
