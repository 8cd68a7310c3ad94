-- What versions show: on a storage that serves their pointers it is as before; with a new version, and without a retired one, it is as the step on views says.
use mathlib.Core.Path.{◌≡◌, refl, sym, ap, ap₂, ◌∙◌}
use mathlib.Core.Bool.{Bool, true, false, cond, false≢true}
use mathlib.Core.List.{List, [], ◌∷◌, ◌++◌, map}
use mathlib.Core.Option.{Option, none, some}
use Prim.Native.Nat.{ℕ, suc, ◌-◌, ◌*◌, ◌≤◌, ◌<◌}
use native.Mathlib.Nat.{zero-add}
use native.Mathlib.Omega.{arith}
use lib.ListN.{length, get_or, take, length-map, get_or-map}
use lib.Seq.{take_at}
use lib.Dec.{eqb}
use Rattle.lists.specs.Lists.{count, counted, all_zero, last_of}
use Rattle.lists.specs.Rows.{joined, fill}
use Rattle.lists.proofs.Over.{over}
use Rattle.lists.specs.Each.{Each}
use Rattle.lists.proofs.Counted.{counted_is, counted_same}
use Rattle.lists.proofs.Counts.{count_append}
use Rattle.lists.proofs.Sets.{map_at}
use Rattle.lists.proofs.Tests.{clause}
use Rattle.model.specs.Measures.{Measures, Shape, parts_for}
use Rattle.model.specs.State.{Block, Pointer, null_pointer, blank_pointer, direct, indirect, Storage, Version, with_pointers, Till}
use Rattle.model.specs.Image.{Era, is_bare, image_blocks}
use Rattle.model.specs.Turn.{target, found_or, turn}
use Rattle.model.specs.Trace.{end_of, block_at, traced_block, traced_blocks, image_of}
use Rattle.model.specs.Sound.{is_null, leads_to, next_pointers, are_traceable}
use Rattle.model.specs.Calls.{newest_pointers, with_newest_pointers, take_over, close_up}
use Rattle.laws.specs.Storage.{Exact}
use Rattle.laws.proofs.Bare.{is_indirect, is_bare_pointer}
use Rattle.laws.proofs.Serves.{pointers_of, Serves, traced_again}
use Rattle.laws.proofs.Turn.{NewOk, extended, traced_same, turn_length, plain_end, lead_at, last_plain}
use Rattle.laws.proofs.Takeover.{close_traced}
use Rattle.laws.proofs.Image.{blocks_joined}
use Rattle.laws.proofs.Fits.{Proper}
use Rattle.history.proofs.PointerKinds.{Kind, zero_kind, blank_kind, direct_kind, kind_of, kind_at}
use Rattle.history.proofs.View.{VersionView, view_versions, view_of, new_kind, turned_kind, with_kinds, turn_newest, take_over_kind, drop_version}

pub view_path : (n n' l l' d d' : ℕ) (i i' : List ℕ) (k k' : List Kind) → n ≡ n' → l ≡ l' → d ≡ d' → i ≡ i' → k ≡ k'
    → ◌≡◌ {A = VersionView} (record { number = n; length = l; day = d; image = i; kinds = k }) (record { number = n'; length = l'; day = d'; image = i'; kinds = k' })
view_path n n' l l' d d' i i' k k' p q o r z = λ t. record { number = p t; length = q t; day = o t; image = r t; kinds = z t }

-- versions of as many pointers that trace to the same blocks have the same blocks, and with the same length the same image
pub blocks_same : (m : Measures) (a b : Storage) (v v' : Version) (vs vs' : List Version) → length v'.pointers ≡ length v.pointers
    → ((n : ℕ) → traced_block m.block_bytes b (v' ∷ vs') n ≡ traced_block m.block_bytes a (v ∷ vs) n) → traced_blocks m.block_bytes b (v' ∷ vs') ≡ traced_blocks m.block_bytes a (v ∷ vs)
unfolding traced_blocks
blocks_same m a b v v' vs vs' n t =
    ap (counted (traced_block m.block_bytes b (v' ∷ vs')) 0) n ∙ counted_same (traced_block m.block_bytes b (v' ∷ vs')) (traced_block m.block_bytes a (v ∷ vs)) t 0 (length v.pointers)

pub image_same : (m : Measures) (a b : Storage) (v v' : Version) (vs vs' : List Version) → v'.length ≡ v.length → length v'.pointers ≡ length v.pointers
    → ((n : ℕ) → traced_block m.block_bytes b (v' ∷ vs') n ≡ traced_block m.block_bytes a (v ∷ vs) n) → image_of m.block_bytes b (v' ∷ vs') ≡ image_of m.block_bytes a (v ∷ vs)
unfolding image_of
image_same m a b v v' vs vs' l n t = ap₂ (λ (k : ℕ) (bs : List Block). take k (joined bs)) l (blocks_same m a b v v' vs vs' n t)

-- ---- on a storage that serves the pointers all is as before

module _ (s : Shape) (a b : Storage) (ps : List Pointer) (sv : Serves s.measures a b ps) where
  abbrev Among : List Version → Type 0
  Among vs = (k i : ℕ) → count (leads_to k i) (pointers_of vs) ≤ count (leads_to k i) ps

  pub blocks_again : (v : Version) (vs : List Version) → Among (v ∷ vs) → traced_blocks s.measures.block_bytes b (v ∷ vs) ≡ traced_blocks s.measures.block_bytes a (v ∷ vs)
  blocks_again v vs g = blocks_same s.measures a b v v vs vs refl (traced_again s a b ps sv (v ∷ vs) g)

  pub image_again : (v : Version) (vs : List Version) → Among (v ∷ vs) → image_of s.measures.block_bytes b (v ∷ vs) ≡ image_of s.measures.block_bytes a (v ∷ vs)
  image_again v vs g = image_same s.measures a b v v vs vs refl refl (traced_again s a b ps sv (v ∷ vs) g)

  pub views_again : (vs : List Version) → Among vs → view_versions s.measures.block_bytes b vs ≡ view_versions s.measures.block_bytes a vs
  unfolding view_versions joined
  views_again [] g = refl
  views_again (v ∷ vs) g =
      ap₂ ◌∷◌ (view_path _ _ _ _ _ _ _ _ _ _ refl refl refl (image_again v vs g) refl)
      (views_again vs (λ k i. omega (arith, g k i, count_append (leads_to k i) v.pointers (pointers_of vs))))

  pub view_again : (t : Till) → Among t.versions → view_of s.measures.block_bytes b t ≡ view_of s.measures.block_bytes a t
  unfolding view_of
  view_again t g = λ j. record { last = t.last; rights = t.rights; versions = views_again t.versions g j }

-- ---- pointers that turn

turned_kind_lem : (era : Era) (m : Measures) (p : Storage) (bs : List Block) (q : Pointer)
    → kind_of (found_or q (target era p bs q)) ≡ turned_kind era bs (kind_of q) (block_at m.block_bytes p q)
unfolding target turned_kind block_at
turned_kind_lem era m p bs null_pointer = refl
turned_kind_lem era m p bs blank_pointer = refl
turned_kind_lem era m p bs (direct k i) = go (target era p bs (direct k i))
  where
    go : (o : Option Pointer) → kind_of (found_or (direct k i) o) ≡ kind_at o
    go none = refl
    go (some q) = refl
turned_kind_lem era m p bs (indirect n) = refl

turned_kinds : (era : Era) (m : Measures) (p : Storage) (bs : List Block) (qs : List Pointer)
    → map kind_of (turn era p bs qs) ≡ over (turned_kind era bs) (map kind_of qs) (map (block_at m.block_bytes p) qs)
unfolding turn
turned_kinds era m p bs [] = refl
turned_kinds era m p bs (q ∷ qs) = ap₂ ◌∷◌ (turned_kind_lem era m p bs q) (turned_kinds era m p bs qs)

-- the blocks of a newest version, whose pointers are not indirect
plain_blocks : (m : Measures) (p : Storage) (v : Version) → ((n : ℕ) → is_indirect (get_or v.pointers n null_pointer) ≡ false)
    → traced_blocks m.block_bytes p (v ∷ []) ≡ map (block_at m.block_bytes p) v.pointers
unfolding traced_blocks traced_block end_of
plain_blocks m p v h =
    ap (counted (traced_block m.block_bytes p (v ∷ [])) 0) (sym (length-map v.pointers (block_at m.block_bytes p)))
    ∙ counted_is (traced_block m.block_bytes p (v ∷ [])) [] 0 (map (block_at m.block_bytes p) v.pointers) (λ j l.
    ap (traced_block m.block_bytes p (v ∷ [])) (zero-add j) ∙ ap (block_at m.block_bytes p) (plain_end (get_or v.pointers j null_pointer) _ (h j))
    ∙ sym (map_at (block_at m.block_bytes p) v.pointers j null_pointer [] (omega (arith, l, length-map v.pointers (block_at m.block_bytes p)))))

-- ---- the new version

pub new_blocks : (era : Era) (m : Measures) (p : Storage) (bs : List Block) (new_v : Version) → NewOk era m p bs new_v.pointers → length new_v.pointers ≡ length bs
    → traced_blocks m.block_bytes p (new_v ∷ []) ≡ bs
unfolding traced_blocks traced_block end_of
new_blocks era m p bs new_v ok n =
    ap (counted (traced_block m.block_bytes p (new_v ∷ [])) 0) n
    ∙ counted_is (traced_block m.block_bytes p (new_v ∷ [])) [] 0 bs (λ j h.
    ap (traced_block m.block_bytes p (new_v ∷ [])) (zero-add j) ∙ ap (block_at m.block_bytes p) (plain_end (get_or new_v.pointers j null_pointer) _ (ok.plain j)) ∙ ok.traced j h)

pub new_image : (era : Era) (m : Measures) → Proper m → (p : Storage) (image : List ℕ) (new_v : Version) → NewOk era m p (image_blocks m.block_bytes image) new_v.pointers
    → new_v.length ≡ length image → length new_v.pointers ≡ length (image_blocks m.block_bytes image) → image_of m.block_bytes p (new_v ∷ []) ≡ image
unfolding image_of
new_image era m pr p image new_v ok l n =
    ap₂ (λ (k : ℕ) (bs : List Block). take k (joined bs)) l (new_blocks era m p (image_blocks m.block_bytes image) new_v ok n)
    ∙ ap (take (length image)) (blocks_joined m pr image)
    ∙ take_at image (fill (parts_for m.block_bytes (length image) * m.block_bytes - length image) []) (length image) refl

pub new_kinds : (era : Era) (m : Measures) (p : Storage) (bs : List Block) (new : List Pointer) → NewOk era m p bs new → length new ≡ length bs
    → map kind_of new ≡ map (new_kind era) bs
new_kinds era m p bs new ok n = go new bs n ok.plain ok.nulls ok.bares
  where
    kind : Bool → Bool → Kind
    kind bare null = cond bare (cond null zero_kind blank_kind) direct_kind

    one : (q : Pointer) → is_indirect q ≡ false → kind_of q ≡ kind (is_bare_pointer q) (is_null q)
    one null_pointer i = refl
    one blank_pointer i = refl
    one (direct k j) i = refl
    one (indirect k) i = absurd (false≢true (sym i))

    go : (qs : List Pointer) (bs : List Block) → length qs ≡ length bs → ((j : ℕ) → is_indirect (get_or qs j null_pointer) ≡ false)
        → ((j : ℕ) → j < length bs → is_null (get_or qs j null_pointer) ≡ all_zero (get_or bs j []))
        → ((j : ℕ) → j < length bs → is_bare_pointer (get_or qs j null_pointer) ≡ is_bare era (get_or bs j [])) → map kind_of qs ≡ map (new_kind era) bs
    go [] [] n f g h = refl
    go [] (b ∷ bs) n f g h = absurd (omega (arith, n))
    go (q ∷ qs) [] n f g h = absurd (omega (arith, n))
    go (q ∷ qs) (b ∷ bs) n f g h =
        ap₂ ◌∷◌ (one q (f 0) ∙ ap₂ kind (h 0 (omega arith)) (g 0 (omega arith)) ∙ (unfold new_kind in refl))
        (go qs bs (omega (arith, n)) (λ j. f (suc j)) (λ j l. g (suc j) (omega (arith, l))) (λ j l. h (suc j) (omega (arith, l))))

-- ---- with a new version

-- each version's image, cut into blocks, is its traced blocks
abbrev pub Cut : ℕ → Storage → List Version → Type 0
Cut bytes p [] = Unit {0}
Cut bytes p (v ∷ vs) = (image_blocks bytes (image_of bytes p (v ∷ vs)) ≡ traced_blocks bytes p (v ∷ vs)) × Cut bytes p vs

module _ (era : Era) (s : Shape) (p : Storage) (x : Exact p) (bs : List Block) (new_v : Version) (ok : NewOk era s.measures p bs new_v.pointers) where
  pub views_extended : (vs : List Version) → are_traceable s.measures.block_bytes s.capacities.blocks p vs ≡ true → Cut s.measures.block_bytes p vs
      → view_versions s.measures.block_bytes p (extended era s p x bs new_v ok vs)
      ≡ turn_newest era s.measures.block_bytes bs (view_versions s.measures.block_bytes p vs) ++ view_versions s.measures.block_bytes p (new_v ∷ [])
  unfolding view_versions turn_newest with_kinds extended with_newest_pointers last_of newest_pointers are_traceable next_pointers traced_block
  views_extended [] h c = refl
  views_extended (v ∷ []) h c =
      ap {B = List VersionView} (λ (w : VersionView). w ∷ view_versions s.measures.block_bytes p (new_v ∷ []))
      (view_path _ _ _ _ _ _ _ _ _ _ refl refl refl
      (image_same s.measures p p v (with_pointers v (turn era p bs v.pointers)) [] (new_v ∷ []) refl
      (turn_length era p bs v.pointers) (traced_same era s p x bs new_v ok v [] h))
      (turned_kinds era s.measures p bs v.pointers
      ∙ ap (over (turned_kind era bs) (map kind_of v.pointers))
      (sym (c.0 ∙ plain_blocks s.measures p v (λ n. last_plain p (get_or v.pointers n null_pointer) (lead_at p [] v.pointers (clause _ 1 h) n))))))
  views_extended (v ∷ w ∷ vs) h c =
      ap₂ ◌∷◌
      (view_path _ _ _ _ _ _ _ _ _ _ refl refl refl
      (image_same s.measures p p v v (w ∷ vs) (extended era s p x bs new_v ok (w ∷ vs)) refl refl (traced_same era s p x bs new_v ok v (w ∷ vs) h))
      refl)
      (views_extended (w ∷ vs) (clause _ 3 h) c.1)

-- ---- without a version

take_kind : (gone : List Pointer) (p : Pointer) → kind_of (take_over gone p) ≡ take_over_kind (map kind_of gone) (kind_of p)
unfolding take_over_kind
take_kind gone null_pointer = refl
take_kind gone blank_pointer = refl
take_kind gone (direct k i) = refl
take_kind gone (indirect n) = sym (get_or-map kind_of gone n null_pointer)

take_kinds : (gone ps : List Pointer) → map kind_of (map (take_over gone) ps) ≡ map (take_over_kind (map kind_of gone)) (map kind_of ps)
take_kinds gone [] = refl
take_kinds gone (p ∷ ps) = ap₂ ◌∷◌ (take_kind gone p) (take_kinds gone ps)

module _ (m : Measures) (a : Storage) (n : ℕ) (v : Version) (newer : List Version) (named : eqb v.number n ≡ true) where
  pub views_closed : (older : List Version) → Each (λ (w : Version). eqb w.number n ≡ false) older
      → view_versions m.block_bytes a (close_up older v newer) ≡ drop_version n (view_versions m.block_bytes a (older ++ (v ∷ newer)))
  unfolding view_versions drop_version with_kinds close_up with_newest_pointers last_of newest_pointers
  views_closed [] o = go newer
    where
      go : (ws : List Version) → view_versions m.block_bytes a ws ≡ drop_version n (view_versions m.block_bytes a (v ∷ ws))
      go [] = unfold view_versions drop_version in rw named refl
      go (w ∷ ws) = unfold view_versions drop_version in rw named refl
  views_closed (u ∷ []) o =
      rw (o.0, named)
      (ap {B = List VersionView} (λ (w : VersionView). w ∷ view_versions m.block_bytes a newer)
      (view_path _ _ _ _ _ _ _ _ _ _ refl refl refl
      (image_same m a a u (with_pointers u (map (take_over v.pointers) u.pointers)) (v ∷ newer) newer refl
      (length-map u.pointers (take_over v.pointers)) (close_traced v newer m.block_bytes a u []))
      (take_kinds v.pointers u.pointers)))
  views_closed (u ∷ w ∷ older) o =
      rw (o.0, o.1.0)
      (ap₂ ◌∷◌
      (view_path _ _ _ _ _ _ _ _ _ _ refl refl refl
      (image_same m a a u u (w ∷ (older ++ (v ∷ newer))) (close_up (w ∷ older) v newer) refl refl (close_traced v newer m.block_bytes a u (w ∷ older)))
      refl)
      (views_closed (w ∷ older) o.1))
