-- What each kind of node hands down is held behind what was held.
use Rattle.std.proofs.Common.{arith, ℕ, suc, ◌≡◌, ◌+◌, ◌-◌, ◌<◌, ◌≤◌, refl, sym, ◌∙◌, ap, subst, inl, inr, List, [], length, get_or, Bool, true, false, cond, eqb, ltb, ◌&&◌, ◌||◌}
use Rattle.std.specs.Prelude.{map}
use mathlib.Core.Path.{ap₂}
use Rattle.std.proofs.lemmas.Bool.{cases_eq, eq-eqb, ne_eqb, eqb-true, cond-true, cond-false, lt-ltb, le-ltb, and_from}
use Rattle.blic_field.specs.Field.{sub}
use Rattle.blic_model.specs.declared.node.Node.{Node}
use Rattle.blic_model.specs.declared.node.Node.TheVariants.{Not, Fix}
use Rattle.blic_model.specs.Circuit.{OrderedCircuit, node_at, is_free, free}
use Rattle.blic_model.specs.Counts.{handed_down, claims}
use Rattle.blic_model.specs.Value.{Point, put, bit}
use Rattle.blic_model.specs.Shape.{IsShaped}
use Rattle.blic_model.proofs.Ordered.{ChildrenBelow, ordered_all}
use Rattle.blic_model.proofs.Shaped.{ordered_of}
use Rattle.blic_model.proofs.Put.{put_here, put_other}
use Rattle.blic_claims.specs.Claims.{Transcript, Claim, claims_from, claims_on, claim_at, node_point}
use Rattle.blic_claims.specs.Held.{AreHeld}
use Rattle.blic_claims.specs.Places.{given, places_of, layout_of, row_at, first_place, second_place}
use Rattle.blic_claims.specs.Points.{PointTable, coordinate, IsPlace, stored_point, is_among, handed_point, HandsDown}
use Rattle.blic_claims.proofs.Held.{hands, count_own, held_mapped, held_pair}
use Rattle.blic_claims.proofs.KeptPoints.{stored_is, free_is, free_contains, not_free, fix_free}
use Rattle.blic_claims.proofs.Pairs.{IsPair, pair_ap, pair_below, pair_free, pair_room, pair_there, pair_elsewhere, not_both}
use Rattle.blic_claims.proofs.Rows.{is_row, length-rows, first_is, second_is, handed_within, handed_all}

-- a place among those that are handed down
handed_there : (a b n first c d y : ℕ) (own : ℕ → Point) (old : Point) → a ≡ b → c ≡ first + d → d < n
    → cond (eqb a b && is_among first n c) (own (c - first)) old y ≡ own d y
handed_there a b n first c d y own old e q l =
    let among : is_among first n c ≡ true = and_from (ltb c (first + n)) (ltb first (suc c)) (lt-ltb c (first + n) (omega arith)) (lt-ltb first (suc c) (omega arith)) in
    let back : c - first ≡ d = omega arith in
    ap (λ s. s y) (cond-true (eqb a b && is_among first n c) (own (c - first)) old (and_from (eqb a b) (is_among first n c) (eq-eqb a b e) among)) ∙ ap (λ z. own z y) back

-- a place before them
handed_before : (a b n first c y : ℕ) (own : ℕ → Point) (old : Point) → (a ≡ b → c < first)
    → cond (eqb a b && is_among first n c) (own (c - first)) old y ≡ old y
handed_before a b n first c y own old h = ap (λ s. s y) (cond-false (eqb a b && is_among first n c) (own (c - first)) old (elim (cases_eq a b) [
  | inl e ↦ second (eqb a b) (ltb c (first + n)) (ltb first (suc c)) (le-ltb first (suc c) (let l = h e in omega arith))
  | inr ne ↦ one (eqb a b) (is_among first n c) (ne_eqb a b ne)
]))
  where
    one : (p q : Bool) → p ≡ false → (p && q) ≡ false
    one p q e = grind arith

    second : (p q r : Bool) → r ≡ false → (p && (q && r)) ≡ false
    second p q r e = grind arith

-- where the claims of a circuit are kept
pub is_place : (c : OrderedCircuit) (p : PointTable) (a d f : ℕ) → p.rows ≡ (layout_of c).rows → a < length c.nodes → d < claims c.nodes a
    → f < length (free c.nodes (length c.order) a) → IsPlace p.rows a d f
is_place c p a d f e la ld lf =
    subst (λ z. IsPlace z a d f) (sym e) (let r = is_row c a la in let n = length-rows c in let m = r.count in let w = r.width in (omega arith, omega arith, omega arith))

-- the child of a `Not` or `Fix` node is smaller, and there is room for its claims
pub not_child : (nodes : List Node) (levels k b : ℕ) → IsShaped nodes levels → k < length nodes → node_at nodes k ≡ Not b
    → (b < k) × (given nodes (suc k) b + claims nodes k ≤ claims nodes b)
not_child nodes levels k b s lk e =
    let lb : b < k = subst (λ m. ChildrenBelow k m) e (ordered_all nodes (ordered_of nodes levels s) k) in
    (lb, handed_all nodes k b (claims nodes k) lb (omega arith) (ap (λ m. handed_down m (claims nodes k) b) e))

pub fix_child : (nodes : List Node) (levels k x : ℕ) (v : Bool) (b : ℕ) → IsShaped nodes levels → k < length nodes → node_at nodes k ≡ Fix x v b
    → (b < k) × (given nodes (suc k) b + claims nodes k ≤ claims nodes b)
fix_child nodes levels k x v b s lk e =
    let lb : b < k = subst (λ m. ChildrenBelow k m) e (ordered_all nodes (ordered_of nodes levels s) k) in
    (lb, handed_all nodes k b (claims nodes k) lb (omega arith) (ap (λ m. handed_down m (claims nodes k) b) e))

-- the point that is kept for a claim is the claim's, at each level that is free in the node
pub kept_point : (c : OrderedCircuit) (T : Transcript) (k d y : ℕ) (p : PointTable) (v : ℕ → ℕ → ℕ)
    → k < length c.nodes → d < claims c.nodes k → y < length c.order → is_free c.nodes k y ≡ true
    → AreHeld c.nodes (length c.order) T (suc k) (suc k) (coordinate p) v
    → stored_point c p k d y ≡ (claim_at c.nodes (length c.order) T k d).point y
kept_point c T k d y p v lk ld ly fy F =
    stored_is c p k d (claim_at c.nodes (length c.order) T k d).point y
    (λ f lf. F.point k d f (omega arith) (count_own c.nodes k d lk ld) lf) (free_contains c.nodes (length c.order) k y ly fy)

-- a node that hands down each of its claims, by g, to its one child
held_by_map : (c : OrderedCircuit) (T : Transcript) (k b : ℕ) (g : Claim → Claim) (own : ℕ → Point) (p q : PointTable) (v u : ℕ → ℕ → ℕ)
    → k < length c.nodes → b < k → given c.nodes (suc k) b + claims c.nodes k ≤ claims c.nodes b → p.rows ≡ (layout_of c).rows
    → ((a : ℕ) → hands c.nodes (length c.order) T k a ≡ cond (eqb b a) (map g (claims_on c.nodes (length c.order) T k)) [])
    → ((a d i : ℕ) → IsPlace p.rows a d i → coordinate q a d i ≡ cond (eqb a b && is_among (given c.nodes (suc k) b) (claims c.nodes k) d) (own (d - given c.nodes (suc k) b)) (λ y. coordinate p a d i) (get_or (free c.nodes (length c.order) a) i 0))
    → ((d f : ℕ) → d < claims c.nodes k → f < length (free c.nodes (length c.order) b)
    → own d (get_or (free c.nodes (length c.order) b) f 0) ≡ (g (claim_at c.nodes (length c.order) T k d)).point (get_or (free c.nodes (length c.order) b) f 0))
    → ((a d : ℕ) → a < k → d < given c.nodes (suc k) a → u a d ≡ v a d)
    → ((d : ℕ) → d < claims c.nodes k → u b (given c.nodes (suc k) b + d) ≡ (g (claim_at c.nodes (length c.order) T k d)).value)
    → AreHeld c.nodes (length c.order) T (suc k) (suc k) (coordinate p) v → AreHeld c.nodes (length c.order) T k k (coordinate q) u
held_by_map c T k b g own p q v u lk lb room ep hands_by hp ho hv hu F =
    let nodes = c.nodes in
    let levels = length c.order in
    let above : AreHeld nodes levels T (suc k) k (coordinate p) v = record { point = λ a d f la. F.point a d f (omega arith); value = λ a d la. F.value a d (omega arith) } in
    held_mapped nodes levels T k b g (coordinate p) (coordinate q) v u (omega arith) hands_by above
    (λ a d f la ld lf.
    let few : d < claims nodes a = omega (arith, handed_within nodes k a la (omega arith)) in
    hp a d f (is_place c p a d f ep (omega arith) few lf) ∙ handed_before a b (claims nodes k) (given nodes (suc k) b) d (get_or (free nodes levels a) f 0) own (λ y. coordinate p a d f) (λ e. (let s : given nodes (suc k) a ≡ given nodes (suc k) b = ap (given nodes (suc k)) e in omega arith)))
    hv
    (λ d f ld lf.
    let few : given nodes (suc k) b + d < claims nodes b = omega arith in
    hp b (given nodes (suc k) b + d) f (is_place c p b (given nodes (suc k) b + d) f ep (omega arith) few lf)
    ∙ (handed_there b b (claims nodes k) (given nodes (suc k) b) (given nodes (suc k) b + d) d (get_or (free nodes levels b) f 0) own (λ y. coordinate p b (given nodes (suc k) b + d) f) refl refl ld ∙ ho d f ld lf))
    hu

-- a `Not` node: the values are turned
pub held_not : (c : OrderedCircuit) (T : Transcript) (k b : ℕ) (p q : PointTable) (v u : ℕ → ℕ → ℕ)
    → IsShaped c.nodes (length c.order) → k < length c.nodes → node_at c.nodes k ≡ Not b → p.rows ≡ (layout_of c).rows → HandsDown c k p q
    → ((a d : ℕ) → a < k → d < given c.nodes (suc k) a → u a d ≡ v a d)
    → ((d : ℕ) → d < claims c.nodes k → u b (given c.nodes (suc k) b + d) ≡ sub 1 (claim_at c.nodes (length c.order) T k d).value)
    → AreHeld c.nodes (length c.order) T (suc k) (suc k) (coordinate p) v → AreHeld c.nodes (length c.order) T k k (coordinate q) u
held_not c T k b p q v u shaped lk e ep hd hv hu F =
    let nodes = c.nodes in
    let levels = length c.order in
    let child = not_child nodes levels k b shaped lk e in
    let first : first_place (layout_of c) k ≡ given nodes (suc k) b = first_is c k lk ∙ ap (λ m. (places_of nodes k m).0) e in
    let count : (row_at (layout_of c).rows k).claims ≡ claims nodes k = (is_row c k lk).count in
    held_by_map c T k b (λ cl. record { point = cl.point; value = sub 1 cl.value }) (stored_point c p k) p q v u lk child.0 child.1 ep
    (λ a. ap (λ m. claims_from nodes levels T k m (claims_on nodes levels T k) a) e)
    (λ a d i h.
    hd a d i h ∙ (ap (λ m. handed_point (layout_of c) k m (stored_point c p k) a d (λ y. coordinate p a d i) (get_or (free nodes levels a) i 0)) e
    ∙ ap₂ (λ s n. cond (eqb a b && is_among s n d) (stored_point c p k (d - s)) (λ y. coordinate p a d i) (get_or (free nodes levels a) i 0)) first count))
    (λ d f ld lf.
    let m = free_is nodes levels b f lf in
    kept_point c T k d (get_or (free nodes levels b) f 0) p v lk ld m.0 (not_free nodes k b (get_or (free nodes levels b) f 0) (ordered_all nodes (ordered_of nodes levels shaped) k) e ∙ m.1) F)
    hv hu F

-- a `Fix` node: the points have the level fixed
pub held_fix : (c : OrderedCircuit) (T : Transcript) (k x : ℕ) (w : Bool) (b : ℕ) (p q : PointTable) (v u : ℕ → ℕ → ℕ)
    → IsShaped c.nodes (length c.order) → k < length c.nodes → node_at c.nodes k ≡ Fix x w b → p.rows ≡ (layout_of c).rows → HandsDown c k p q
    → ((a d : ℕ) → a < k → d < given c.nodes (suc k) a → u a d ≡ v a d)
    → ((d : ℕ) → d < claims c.nodes k → u b (given c.nodes (suc k) b + d) ≡ (claim_at c.nodes (length c.order) T k d).value)
    → AreHeld c.nodes (length c.order) T (suc k) (suc k) (coordinate p) v → AreHeld c.nodes (length c.order) T k k (coordinate q) u
held_fix c T k x w b p q v u shaped lk e ep hd hv hu F =
    let nodes = c.nodes in
    let levels = length c.order in
    let child = fix_child nodes levels k x w b shaped lk e in
    let own : ℕ → Point = λ d. put (stored_point c p k d) x (bit w) in
    let first : first_place (layout_of c) k ≡ given nodes (suc k) b = first_is c k lk ∙ ap (λ m. (places_of nodes k m).0) e in
    let count : (row_at (layout_of c).rows k).claims ≡ claims nodes k = (is_row c k lk).count in
    held_by_map c T k b (λ cl. record { point = put cl.point x (bit w); value = cl.value }) own p q v u lk child.0 child.1 ep
    (λ a. ap (λ m. claims_from nodes levels T k m (claims_on nodes levels T k) a) e)
    (λ a d i h.
    hd a d i h ∙ (ap (λ m. handed_point (layout_of c) k m (stored_point c p k) a d (λ y. coordinate p a d i) (get_or (free nodes levels a) i 0)) e
    ∙ ap₂ (λ s n. cond (eqb a b && is_among s n d) (own (d - s)) (λ y. coordinate p a d i) (get_or (free nodes levels a) i 0)) first count))
    (λ d f ld lf.
    let m = free_is nodes levels b f lf in
    let y = get_or (free nodes levels b) f 0 in
    let s = (claim_at nodes levels T k d).point in
    elim (cases_eq y x) [
      | inl q ↦ subst (λ z. put (stored_point c p k d) x (bit w) z ≡ put s x (bit w) z) (sym q) (put_here (stored_point c p k d) x (bit w) ∙ sym (put_here s x (bit w)))
      | inr ne ↦ put_other (stored_point c p k d) x (bit w) y ne ∙ (kept_point c T k d y p v lk ld m.0 (fix_free nodes k x w b y (ordered_all nodes (ordered_of nodes levels shaped) k) e ne m.1) F ∙ sym (put_other s x (bit w) y ne))
    ])
    hv hu F

-- a binary node: its one point goes to both children, with one value each
pub held_binary : (c : OrderedCircuit) (T : Transcript) (k a b : ℕ) (p q : PointTable) (v u : ℕ → ℕ → ℕ)
    → IsShaped c.nodes (length c.order) → k < length c.nodes → IsPair (node_at c.nodes k) a b → p.rows ≡ (layout_of c).rows → HandsDown c k p q
    → ((y : ℕ) → y < length c.order → is_free c.nodes k y ≡ true → stored_point c p k 0 y ≡ node_point c.nodes (length c.order) T k y)
    → ((a2 d : ℕ) → a2 < k → d < given c.nodes (suc k) a2 → u a2 d ≡ v a2 d)
    → u a (given c.nodes (suc k) a + 0) ≡ (T.values k).0
    → u b (given c.nodes (suc k) b + cond (eqb a b) 1 0) ≡ (T.values k).1
    → AreHeld c.nodes (length c.order) T (suc k) k (coordinate p) v → AreHeld c.nodes (length c.order) T k k (coordinate q) u
held_binary c T k a b p q v u shaped lk h ep hd end hv ua ub F =
    let nodes = c.nodes in
    let levels = length c.order in
    let lower = pair_below nodes levels k a b shaped h in
    let la = lower.0 in
    let lb = lower.1 in
    let pair_places = pair_room nodes k a b h la lb (omega arith) in
    let cp : Claim = record { point = node_point nodes levels T k; value = (T.values k).0 } in
    let cq : Claim = record { point = node_point nodes levels T k; value = (T.values k).1 } in
    let first : first_place (layout_of c) k ≡ given nodes (suc k) a = first_is c k lk ∙ pair_ap (λ m. (places_of nodes k m).0) _ (node_at nodes k) a b refl refl h in
    let second : second_place (layout_of c) k ≡ given nodes (suc k) b + cond (eqb a b) 1 0 = second_is c k lk ∙ pair_ap (λ m. (places_of nodes k m).1) _ (node_at nodes k) a b refl refl h in
    let point_is : (a2 d i : ℕ) → IsPlace p.rows a2 d i → coordinate q a2 d i ≡ cond ((eqb a2 a && eqb d (given nodes (suc k) a)) || (eqb a2 b && eqb d (given nodes (suc k) b + cond (eqb a b) 1 0))) (stored_point c p k 0) (λ y. coordinate p a2 d i) (get_or (free nodes levels a2) i 0) =
    λ a2 d i pl. hd a2 d i pl ∙ (pair_ap (λ m. handed_point (layout_of c) k m (stored_point c p k) a2 d (λ y. coordinate p a2 d i) (get_or (free nodes levels a2) i 0)) _ (node_at nodes k) a b refl refl h
    ∙ ap₂ (λ s t. cond ((eqb a2 a && eqb d s) || (eqb a2 b && eqb d t)) (stored_point c p k 0) (λ y. coordinate p a2 d i) (get_or (free nodes levels a2) i 0)) first second) in
    held_pair nodes levels T k a b cp cq (coordinate p) (coordinate q) v u (omega arith)
    (λ j. pair_ap (λ m. claims_from nodes levels T k m (claims_on nodes levels T k) j) _ (node_at nodes k) a b refl refl h)
    F
    (λ a2 d f l2 ld lf.
    let few : d < claims nodes a2 = omega (arith, handed_within nodes k a2 l2 (omega arith)) in
    point_is a2 d f (is_place c p a2 d f ep (omega arith) few lf)
    ∙ pair_elsewhere (eqb a2 a && eqb d (given nodes (suc k) a)) (eqb a2 b && eqb d (given nodes (suc k) b + cond (eqb a b) 1 0)) (stored_point c p k 0) (λ y. coordinate p a2 d f) (get_or (free nodes levels a2) f 0)
    (not_both (eqb a2 a) (eqb d (given nodes (suc k) a)) (λ e. (let s : given nodes (suc k) a2 ≡ given nodes (suc k) a = ap (given nodes (suc k)) (eqb-true a2 a e) in ne_eqb d (given nodes (suc k) a) (λ z. omega arith))))
    (not_both (eqb a2 b) (eqb d (given nodes (suc k) b + cond (eqb a b) 1 0)) (λ e. (let s : given nodes (suc k) a2 ≡ given nodes (suc k) b = ap (given nodes (suc k)) (eqb-true a2 b e) in ne_eqb d (given nodes (suc k) b + cond (eqb a b) 1 0) (λ z. omega arith)))))
    hv
    (λ f lf.
    let m = free_is nodes levels a f lf in
    let y = get_or (free nodes levels a) f 0 in
    let zero : given nodes (suc k) a + 0 ≡ given nodes (suc k) a = omega arith in
    point_is a (given nodes (suc k) a + 0) f (is_place c p a (given nodes (suc k) a + 0) f ep (omega arith) (omega (arith, pair_places.0)) lf)
    ∙ (pair_there (eqb a a && eqb (given nodes (suc k) a + 0) (given nodes (suc k) a)) (eqb a b && eqb (given nodes (suc k) a + 0) (given nodes (suc k) b + cond (eqb a b) 1 0)) (stored_point c p k 0) (λ y. coordinate p a (given nodes (suc k) a + 0) f) y
    (inl (and_from (eqb a a) (eqb (given nodes (suc k) a + 0) (given nodes (suc k) a)) (eq-eqb a a refl) (eq-eqb (given nodes (suc k) a + 0) (given nodes (suc k) a) zero)))
    ∙ end y m.0 (pair_free nodes levels k a b y shaped h (inl m.1))))
    (λ f lf.
    let m = free_is nodes levels b f lf in
    let y = get_or (free nodes levels b) f 0 in
    let e = given nodes (suc k) b + cond (eqb a b) 1 0 in
    point_is b e f (is_place c p b e f ep (omega arith) pair_places.1 lf)
    ∙ (pair_there (eqb b a && eqb e (given nodes (suc k) a)) (eqb b b && eqb e e) (stored_point c p k 0) (λ y. coordinate p b e f) y
    (inr (and_from (eqb b b) (eqb e e) (eq-eqb b b refl) (eq-eqb e e refl)))
    ∙ end y m.0 (pair_free nodes levels k a b y shaped h (inr m.1))))
    ua ub
