-- A key is loaded from its 27 bytes as it was stored, so the same bytes are of the same key.
use Prim.Native.Nat.{ℕ}
use mathlib.Core.Path.{◌≡◌, refl, ap, sym, ◌∙◌}
use mathlib.Core.Bool.{true}
use mathlib.Core.List.{[], ◌++◌, append-nil}
use lib.ListN.{take}
use lib.Seq.{take-append_seam}
use Rattle.byte_io.specs.BigEndian.{bytes_of}
use Rattle.image.specs.Part.{RoundTrips}
use Rattle.key_image.specs.Key.{key_part}
use Rattle.key_image.specs.Laws.{KeyImages}
use Rattle.link_key.specs.Key.{same_key}
use Rattle.link_key.specs.Laws.{SameKeyLaws}
use Rattle.link_key.specs.declared.Key.{Key}
use Rattle.node_image.specs.Answers.{frame_key_image}
use Rattle.network_call_laws.specs.Turn.{identifier_in, key_in}

pub identifier-in : (k : Key) (n : ℕ) → identifier_in (frame_key_image.put (k, n)) ≡ k.identifier
identifier-in k n = refl

pub key-loaded : RoundTrips frame_key_image → (k : Key) (n : ℕ) → frame_key_image.Fit (k, n)
    → (frame_key_image.get (frame_key_image.put (k, n))).0 ≡ k
key-loaded lawful k n f =
    ap (λ (x : Key × ℕ). x.0) (ap frame_key_image.get (sym (append-nil (frame_key_image.put (k, n)))) ∙ lawful.loaded (k, n) [] f)

module _ (images : KeyImages) (same : SameKeyLaws) where
  key_in_lem : (k : Key) (n : ℕ) → frame_key_image.Fit (k, n) → key_in (frame_key_image.put (k, n)) ≡ key_part.put k
  key_in_lem k n f =
      ap (λ (i : ℕ). take i (key_part.put k ++ bytes_of 4 n)) (sym (images.key.sized k f.0 ∙ images.key-size))
      ∙ take-append_seam (key_part.put k) (bytes_of 4 n)

  load : (k : Key) → key_part.Fit k → key_part.get (key_part.put k) ≡ k
  load k f = ap key_part.get (sym (append-nil (key_part.put k))) ∙ images.key.loaded k [] f

  module _ (k l : Key) (n m : ℕ) (f : frame_key_image.Fit (k, n)) (g : frame_key_image.Fit (l, m)) where
    pub same_bytes : key_in (frame_key_image.put (k, n)) ≡ key_in (frame_key_image.put (l, m)) → same_key k l ≡ true
    same_bytes e =
        let b : key_part.put k ≡ key_part.put l = sym (key_in_lem k n f) ∙ e ∙ key_in_lem l m g in
        let i : k ≡ l = sym (load k f.0) ∙ ap key_part.get b ∙ load l g.0 in
        ap (same_key k) (sym i) ∙ same.same-key-self k

    pub same_key_lem : same_key k l ≡ true → key_in (frame_key_image.put (k, n)) ≡ key_in (frame_key_image.put (l, m))
    same_key_lem e = key_in_lem k n f ∙ ap key_part.put (same.same-key-equal k l e) ∙ sym (key_in_lem l m g)
