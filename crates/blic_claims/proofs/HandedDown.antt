-- What is handed down from a node of each kind.
use Rattle.std.proofs.Common.{arith, ℕ, ◌≡◌, ◌-◌, ◌<◌, refl, sym, ◌∙◌, ap, subst, inl, inr, length, get_or, Bool, true, false, cond, ◌==◌, ◌&&◌, ◌||◌, Option, Some, None}
use mathlib.Core.Path.{ap₂}
use Rattle.std.proofs.lemmas.Bool.{and_parts, and_left, ne_eqb, eqb-true, cond-false}
use Rattle.blic_model.specs.declared.node.Node.{Node}
use Rattle.blic_model.specs.declared.node.Node.TheVariants.{Not, Fix}
use Rattle.blic_model.specs.Circuit.{OrderedCircuit, node_at}
use Rattle.blic_model.specs.Value.{put, bit}
use Rattle.blic_model.specs.Counts.{claims}
use Rattle.blic_claims.specs.Places.{Places, layout_of, row_at, first_place, second_place}
use Rattle.blic_claims.specs.Points.{PointTable, ArePointsOf, coordinate, IsPlace, stored_point, is_among, handed_point, HandsDown}
use Rattle.blic_claims.specs.Elements.{levels_of, HandsPoint, HandsAll, CopiesClaims}
use Rattle.blic_claims.specs.declared.elements.Fixed.{Fixed}
use Rattle.blic_claims.proofs.Copying.{point_at_entry}
use Rattle.blic_claims.proofs.FreeLevels.{free_rising, same_free}
use Rattle.blic_claims.proofs.Handable.{HasPlaces, IsBinaryOf, ordered, first_of, second_of, not_asks, left_handable}
use Rattle.blic_claims.proofs.LayoutRows.{claims_of_row, width_of_row}
use Rattle.blic_claims.proofs.Handing.{own_points_stay}

-- what node k hands down, were it this node
abbrev HandsFor : OrderedCircuit → ℕ → Node → PointTable → PointTable → Type 0
HandsFor circuit k m old new =
    (a c i : ℕ) → IsPlace old.rows a c i
    → coordinate new a c i ≡ handed_point (layout_of circuit) k m (stored_point circuit old k) a c (λ y. coordinate old a c i) (get_or (levels_of circuit a) i 0)

-- a choice of points, at a level
cond_at : (t : Bool) (f g : ℕ → ℕ) (y : ℕ) → cond t f g y ≡ cond t (f y) (g y)
cond_at true f g y = refl
cond_at false f g y = refl

cond_agree : (t : Bool) (x y z : ℕ) → (t ≡ true → x ≡ y) → cond t x z ≡ cond t y z
cond_agree true x y z h = h refl
cond_agree false x y z h = refl

-- the element of a claim on the node is that of its point
own_element : (circuit : OrderedCircuit) (p : PointTable) (k d i : ℕ) → i < length (levels_of circuit k) → stored_point circuit p k d (get_or (levels_of circuit k) i 0) ≡ coordinate p k d i
unfolding stored_point
own_element circuit p k d i l = point_at_entry (levels_of circuit k) (coordinate p k d) i (free_rising circuit.nodes (length circuit.order) k) l

pub not_hands : (circuit : OrderedCircuit) (layout : Places) (k first second b : ℕ) (p n : PointTable) → HasPlaces circuit layout k first second → Not b ≡ node_at circuit.nodes k
    → ArePointsOf p circuit → CopiesClaims p k b first n → HandsDown circuit k p n
not_hands circuit layout k first second b p n w e are h =
    subst (λ z. HandsFor circuit k z p n) e
    (λ a c i q. h a c i q
    ∙ (same a c i
    ∙ (agree a c i q
    ∙ sym (cond_at ((a == b) && is_among place count c) (stored_point circuit p k (c - place)) (λ y. coordinate p a c i) (get_or (levels_of circuit a) i 0)))))
  where
    place : ℕ
    place = first_place (layout_of circuit) k

    count : ℕ
    count = (row_at (layout_of circuit).rows k).claims

    same : (a c i : ℕ) → cond ((a == b) && is_among first (row_at p.rows k).claims c) (coordinate p k (c - first) i) (coordinate p a c i)
        ≡ cond ((a == b) && is_among place count c) (coordinate p k (c - place) i) (coordinate p a c i)
    same a c i = ap₂ (λ f rows. cond ((a == b) && is_among f (row_at rows k).claims c) (coordinate p k (c - f) i) (coordinate p a c i)) (first_of circuit layout k first second w) are

    levels : levels_of circuit k ≡ levels_of circuit b
    levels = same_free circuit.nodes (length circuit.order) k b (ordered circuit layout k first second w) (sym e)

    agree : (a c i : ℕ) → IsPlace p.rows a c i
        → cond ((a == b) && is_among place count c) (coordinate p k (c - place) i) (coordinate p a c i)
        ≡ cond ((a == b) && is_among place count c) (stored_point circuit p k (c - place) (get_or (levels_of circuit a) i 0)) (coordinate p a c i)
    agree a c i q =
        cond_agree ((a == b) && is_among place count c) (coordinate p k (c - place) i) (stored_point circuit p k (c - place) (get_or (levels_of circuit a) i 0))
        (coordinate p a c i) (λ t. element a c i q (eqb-true a b (and_parts (a == b) (is_among place count c) t).0))
      where
        element : (a c i : ℕ) → IsPlace p.rows a c i → a ≡ b → coordinate p k (c - place) i ≡ stored_point circuit p k (c - place) (get_or (levels_of circuit a) i 0)
        element a c i q ea =
            let asks = not_asks circuit layout k first second b p w e are in
            let below = asks.below in
            let node = w.inside in
            let width = ap (λ rows. (row_at rows b).width) are ∙ width_of_row circuit b (omega arith) in
            let hi : i < (row_at p.rows b).width = subst (λ z. i < (row_at p.rows z).width) ea q.2 in
            let inside : i < length (levels_of circuit k) = omega (arith, ap length levels) in
            sym (own_element circuit p k (c - place) i inside)
            ∙ ap (λ ls. stored_point circuit p k (c - place) (get_or ls i 0)) (levels ∙ ap (levels_of circuit) (sym ea))

pub fix_hands : (circuit : OrderedCircuit) (layout : Places) (k first second x b : ℕ) (v : Bool) (p n : PointTable) → HasPlaces circuit layout k first second
    → Fix x v b ≡ node_at circuit.nodes k → HandsAll circuit p k (claims circuit.nodes k) (Some (record { level = x; bit = v })) b first n → HandsDown circuit k p n
fix_hands circuit layout k first second x b v p n w e h =
    subst (λ z. HandsFor circuit k z p n) e
    (λ a c i q. at_place a c i q
    ∙ sym (cond_at ((a == b) && is_among place count c) (put (stored_point circuit p k (c - place)) x (bit v)) (λ y. coordinate p a c i) (get_or (levels_of circuit a) i 0)))
  where
    fixed : Option Fixed
    fixed = Some (record { level = x; bit = v })

    place : ℕ
    place = first_place (layout_of circuit) k

    count : ℕ
    count = (row_at (layout_of circuit).rows k).claims

    at_place : HandsAll circuit p k count fixed b place n
    at_place =
        subst (λ f. HandsAll circuit p k count fixed b f n) (first_of circuit layout k first second w)
        (subst (λ m. HandsAll circuit p k m fixed b first n) (sym (claims_of_row circuit k w.inside)) h)

cond_either : (t u : Bool) (x z : ℕ) → cond u x (cond t x z) ≡ cond (t || u) x z
cond_either true true x z = refl
cond_either true false x z = refl
cond_either false true x z = refl
cond_either false false x z = refl

pub binary_hands : (circuit : OrderedCircuit) (layout : Places) (k first second b d : ℕ) (m : Node) (p q n : PointTable) → HasPlaces circuit layout k first second
    → IsBinaryOf m b d → m ≡ node_at circuit.nodes k → ArePointsOf p circuit → q.rows ≡ p.rows → HandsPoint circuit p k 0 None b first q
    → HandsPoint circuit q k 0 None d second n → HandsDown circuit k p n
binary_hands circuit layout k first second b d m p q n w kind e are rows one two = go kind
  where
    own : stored_point circuit q k 0 ≡ stored_point circuit p k 0
    own =
        let left = left_handable circuit layout k first second b d m w kind e in
        let below = left.is_below in
        own_points_stay circuit p q k 0 are w.inside left.has_claim
        (λ i u. one k 0 i u
        ∙ cond-false ((k == b) && (0 == first)) (stored_point circuit p k 0 (get_or (levels_of circuit k) i 0)) (coordinate p k 0 i)
        (and_left (k == b) (0 == first) (ne_eqb k b (λ s. omega arith))))

    both : (a c i : ℕ) → IsPlace p.rows a c i
        → coordinate n a c i
        ≡ cond (((a == b) && (c == first_place (layout_of circuit) k)) || ((a == d) && (c == second_place (layout_of circuit) k)))
        (stored_point circuit p k 0 (get_or (levels_of circuit a) i 0)) (coordinate p a c i)
    both a c i h =
        two a c i (subst (λ rs. IsPlace rs a c i) (sym rows) h)
        ∙ (ap₂ (λ s z. cond ((a == d) && (c == second)) (s (get_or (levels_of circuit a) i 0)) z) own (one a c i h)
        ∙ (cond_either ((a == b) && (c == first)) ((a == d) && (c == second)) (stored_point circuit p k 0 (get_or (levels_of circuit a) i 0)) (coordinate p a c i)
        ∙ ap₂ (λ f s. cond (((a == b) && (c == f)) || ((a == d) && (c == s))) (stored_point circuit p k 0 (get_or (levels_of circuit a) i 0)) (coordinate p a c i))
        (first_of circuit layout k first second w) (second_of circuit layout k first second w)))

    chosen : (a c i : ℕ) → IsPlace p.rows a c i
        → coordinate n a c i
        ≡ cond (((a == b) && (c == first_place (layout_of circuit) k)) || ((a == d) && (c == second_place (layout_of circuit) k)))
        (stored_point circuit p k 0) (λ y. coordinate p a c i) (get_or (levels_of circuit a) i 0)
    chosen a c i h =
        both a c i h
        ∙ sym (cond_at (((a == b) && (c == first_place (layout_of circuit) k)) || ((a == d) && (c == second_place (layout_of circuit) k)))
        (stored_point circuit p k 0) (λ y. coordinate p a c i) (get_or (levels_of circuit a) i 0))

    go : IsBinaryOf m b d → HandsDown circuit k p n
    go (inl f) = subst (λ z. HandsFor circuit k z p n) (sym f ∙ e) chosen
    go (inr f) = subst (λ z. HandsFor circuit k z p n) (sym f ∙ e) chosen
