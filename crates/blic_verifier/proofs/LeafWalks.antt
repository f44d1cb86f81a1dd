-- A walk past a leaf, or a fault there.
use Rattle.std.proofs.Common.{arith, ℕ, suc, ◌≡◌, ◌+◌, ◌<◌, refl, sym, ◌∙◌, ap, subst, List, [], ◌∷◌, length, get_or, Bool, false}
use Rattle.std.specs.Prelude.{map, Some, None, Option, sum_by}
use Rattle.std.proofs.lemmas.Bool.{ltb-true}
use Rattle.blic_model.specs.declared.node.Node.{Node}
use Rattle.blic_model.specs.declared.node.Node.TheVariants.{Const, Var}
use Rattle.blic_model.specs.Circuit.{OrderedCircuit, node_at, below, free}
use Rattle.blic_model.specs.Counts.{is_binary, claims}
use Rattle.blic_model.specs.Value.{bit}
use Rattle.blic_model.specs.Shape.{IsShaped, levels_below}
use Rattle.blic_model.proofs.Ordered.{ordered_all}
use Rattle.blic_model.proofs.Shaped.{ordered_of, in_range_of}
use Rattle.blic_claims.specs.Claims.{claims_from, claims_on, claim_at}
use Rattle.blic_claims.specs.Places.{layout_of}
use Rattle.blic_claims.specs.Points.{PointTable, coordinate}
use Rattle.blic_claims.specs.Turns.{Reply, transcript}
use Rattle.blic_claims.proofs.ClaimCounts.{length-claims_on}
use Rattle.blic_verifier.specs.Acceptance.{leaf_check, node_checks}
use Rattle.blic_claims.specs.Held.{AreHeld}
use Rattle.blic_verifier.specs.Walking.{conditions}
use Rattle.blic_verifier.specs.Holding.{IsFirstDifference, value_in, WalksTo, IsTakenAs, leaf_taken}
use Rattle.blic_verifier.proofs.Clear.{fault_here}
use Rattle.blic_claims.proofs.Held.{count_own, hands, held_leaf}
use Rattle.blic_verifier.proofs.Handing.{leaf_fault, leaf_fine}
use Rattle.blic_verifier.proofs.Judging.{judged_fault}
use Rattle.blic_claims.proofs.KeptPoints.{var_free}
use Rattle.blic_verifier.proofs.Passing.{walk_more, value_place}

leaf_walk : (c : OrderedCircuit) (answer : Bool) (draws : List ℕ) (replies : List Reply) (k : ℕ) (p : PointTable) (vs : List ℕ) (right found : ℕ → ℕ) (o : Option ℕ)
    → k < length c.nodes → is_binary (node_at c.nodes k) ≡ false → p.rows ≡ (layout_of c).rows
    → ((a : ℕ) → hands c.nodes (length c.order) (transcript c.nodes (length c.order) answer draws replies) k a ≡ [])
    → conditions c.nodes (length c.order) (transcript c.nodes (length c.order) answer draws replies) k
    ≡ map (λ j. leaf_check c.nodes (length c.order) k j (claim_at c.nodes (length c.order) (transcript c.nodes (length c.order) answer draws replies) k j).value (right j))
    (below (length (claims_on c.nodes (length c.order) (transcript c.nodes (length c.order) answer draws replies) k)))
    → ((d : ℕ) → d < claims c.nodes k → found d ≡ right d)
    → IsFirstDifference (claims c.nodes k) (λ d. get_or vs (sum_by (claims c.nodes) (below k) + d) 0) found o
    → WalksTo c answer draws replies (suc k) p vs → IsTakenAs c answer draws replies k p vs (leaf_taken o)
leaf_walk c answer draws replies k p vs right found None lk b ep none is same h w =
    let nodes = c.nodes in
    let levels = length c.order in
    let T = transcript nodes levels answer draws replies in
    let above : AreHeld nodes levels T (suc k) k (coordinate p) (value_in p vs) = record { point = λ a d f la. w.below.point a d f (omega arith); value = λ a d la. w.below.value a d (omega arith) } in
    walk_more nodes levels answer draws replies k (coordinate p) (coordinate p) (value_in p vs) (value_in p vs) lk b w
    (held_leaf nodes levels T k (coordinate p) (value_in p vs) (omega arith) none above)
    (leaf_fine nodes levels T (suc (length replies)) k (length (claims_on nodes levels T k)) (λ j. (claim_at nodes levels T k j).value) right (ap suc (w.reply_count k refl)) is w.clear
    (λ d l.
    let ld : d < claims nodes k = subst (λ z. d < z) (length-claims_on nodes levels T k) l in
    sym (w.below.value k d (omega arith) (count_own nodes k d lk ld)) ∙ (value_place c p vs k d ep lk ∙ (h d ld ∙ same d ld))))
leaf_walk c answer draws replies k p vs right found (Some d) lk b ep none is same (ld, before, bad) w =
    let nodes = c.nodes in
    let levels = length c.order in
    let T = transcript nodes levels answer draws replies in
    let left : (e : ℕ) → e < claims nodes k → (claim_at nodes levels T k e).value ≡ get_or vs (sum_by (claims nodes) (below k) + e) 0 = λ e l. sym (w.below.value k e (omega arith) (count_own nodes k e lk l)) ∙ value_place c p vs k e ep lk in
    judged_fault nodes levels answer draws replies (leaf_check nodes levels k d (claim_at nodes levels T k d).value (right d))
    (fault_here nodes levels T (suc (length replies)) k (leaf_check nodes levels k d (claim_at nodes levels T k d).value (right d)) lk w.clear
    (leaf_fault nodes levels T (suc (length replies)) k d (length (claims_on nodes levels T k)) (λ j. (claim_at nodes levels T k j).value) right lk (ap suc (w.reply_count k refl)) is w.clear
    (subst (λ z. d < z) (sym (length-claims_on nodes levels T k)) ld)
    (λ e l. left e (omega arith) ∙ (before e l ∙ same e (omega arith)))
    (λ e. bad (sym (left d ld) ∙ (e ∙ sym (same d ld))))))

pub const_walk : (c : OrderedCircuit) (answer : Bool) (draws : List ℕ) (replies : List Reply) (k : ℕ) (v : Bool) (p : PointTable) (vs : List ℕ) (o : Option ℕ)
    → k < length c.nodes → node_at c.nodes k ≡ Const v → p.rows ≡ (layout_of c).rows
    → IsFirstDifference (claims c.nodes k) (λ d. get_or vs (sum_by (claims c.nodes) (below k) + d) 0) (λ d. bit v) o
    → WalksTo c answer draws replies (suc k) p vs → IsTakenAs c answer draws replies k p vs (leaf_taken o)
const_walk c answer draws replies k v p vs o lk e ep h w =
    let nodes = c.nodes in
    let levels = length c.order in
    let T = transcript nodes levels answer draws replies in
    leaf_walk c answer draws replies k p vs (λ d. bit v) (λ d. bit v) o lk (ap is_binary e) ep
    (λ a. ap (λ m. claims_from nodes levels T k m (claims_on nodes levels T k) a) e)
    (ap (λ m. node_checks nodes levels T k m (claims_on nodes levels T k)) e) (λ d l. refl) h w

-- a variable has one free level, its own
pub var_width : (nodes : List Node) (levels k x : ℕ) → IsShaped nodes levels → k < length nodes → node_at nodes k ≡ Var x → free nodes levels k ≡ x ∷ []
var_width nodes levels k x s lk e =
    var_free nodes levels k x (ordered_all nodes (ordered_of nodes levels s) k) e (ltb-true x levels (sym (ap (levels_below levels) e) ∙ in_range_of nodes levels s k lk))

pub var_walk : (c : OrderedCircuit) (answer : Bool) (draws : List ℕ) (replies : List Reply) (k x : ℕ) (p : PointTable) (vs : List ℕ) (o : Option ℕ)
    → IsShaped c.nodes (length c.order) → k < length c.nodes → node_at c.nodes k ≡ Var x → p.rows ≡ (layout_of c).rows
    → IsFirstDifference (claims c.nodes k) (λ d. get_or vs (sum_by (claims c.nodes) (below k) + d) 0) (λ d. coordinate p k d 0) o
    → WalksTo c answer draws replies (suc k) p vs → IsTakenAs c answer draws replies k p vs (leaf_taken o)
var_walk c answer draws replies k x p vs o s lk e ep h w =
    let nodes = c.nodes in
    let levels = length c.order in
    let T = transcript nodes levels answer draws replies in
    let only = var_width nodes levels k x s lk e in
    let n : length (free nodes levels k) ≡ 1 = ap length only in
    leaf_walk c answer draws replies k p vs (λ d. (claim_at nodes levels T k d).point x) (λ d. coordinate p k d 0) o lk (ap is_binary e) ep
    (λ a. ap (λ m. claims_from nodes levels T k m (claims_on nodes levels T k) a) e)
    (ap (λ m. node_checks nodes levels T k m (claims_on nodes levels T k)) e)
    (λ d l. w.below.point k d 0 (omega arith) (count_own nodes k d lk l) (omega arith) ∙ ap (λ z. (claim_at nodes levels T k d).point (get_or z 0 0)) only) h w
