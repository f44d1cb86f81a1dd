-- A walk past each kind of node that is not binary.
use Rattle.std.proofs.Common.{ℕ, suc, ◌≡◌, ◌+◌, ◌<◌, ◌≤◌, ap, ◌⊎◌, List, length, get_or, Bool}
use Rattle.std.specs.Prelude.{sum_by}
use Rattle.blic_field.specs.Field.{sub}
use Rattle.blic_model.specs.declared.node.Node.TheVariants.{Not, Fix}
use Rattle.blic_model.specs.Circuit.{OrderedCircuit, node_at, below}
use Rattle.blic_model.specs.Counts.{is_binary, claims}
use Rattle.blic_model.specs.Shape.{IsShaped}
use Rattle.blic_claims.specs.Claims.{claims_on}
use Rattle.blic_claims.specs.Places.{given, layout_of}
use Rattle.blic_claims.specs.Points.{PointTable, HandsDown}
use Rattle.blic_claims.specs.Turns.{Reply, transcript}
use Rattle.blic_verifier.specs.Acceptance.{node_checks}
use Rattle.blic_verifier.specs.Holding.{value_in, WalksTo}
use Rattle.blic_verifier.proofs.Passing.{mapped_walk}
use Rattle.blic_claims.proofs.HeldNodes.{not_child, fix_child, held_not, held_fix}

pub not_walk : (c : OrderedCircuit) (answer : Bool) (draws : List ℕ) (replies : List Reply) (k b : ℕ) (p q : PointTable) (vs ws : List ℕ)
    → IsShaped c.nodes (length c.order) → k < length c.nodes → node_at c.nodes k ≡ Not b
    → p.rows ≡ (layout_of c).rows → q.rows ≡ (layout_of c).rows → HandsDown c k p q
    → ((d : ℕ) → d < claims c.nodes k → get_or ws (sum_by (claims c.nodes) (below b) + given c.nodes (suc k) b + d) 0 ≡ sub 1 (get_or vs (sum_by (claims c.nodes) (below k) + d) 0))
    → ((i : ℕ) → (i < sum_by (claims c.nodes) (below b) + given c.nodes (suc k) b) ⊎ (sum_by (claims c.nodes) (below b) + given c.nodes (suc k) b + claims c.nodes k ≤ i) → get_or ws i 0 ≡ get_or vs i 0)
    → WalksTo c answer draws replies (suc k) p vs → WalksTo c answer draws replies k q ws
not_walk c answer draws replies k b p q vs ws shaped lk e ep eq hd hi hz w =
    let nodes = c.nodes in
    let levels = length c.order in
    let T = transcript nodes levels answer draws replies in
    let child = not_child nodes levels k b shaped lk e in
    mapped_walk c answer draws replies k b (sub 1) p q vs ws lk child.0 (ap is_binary e) child.1 ep eq
    (ap (λ m. node_checks nodes levels T k m (claims_on nodes levels T k)) e)
    hi hz (λ same own. held_not c T k b p q (value_in p vs) (value_in q ws) shaped lk e ep hd same own w.below) w

pub fix_walk : (c : OrderedCircuit) (answer : Bool) (draws : List ℕ) (replies : List Reply) (k x : ℕ) (v : Bool) (b : ℕ) (p q : PointTable) (vs ws : List ℕ)
    → IsShaped c.nodes (length c.order) → k < length c.nodes → node_at c.nodes k ≡ Fix x v b
    → p.rows ≡ (layout_of c).rows → q.rows ≡ (layout_of c).rows → HandsDown c k p q
    → ((d : ℕ) → d < claims c.nodes k → get_or ws (sum_by (claims c.nodes) (below b) + given c.nodes (suc k) b + d) 0 ≡ get_or vs (sum_by (claims c.nodes) (below k) + d) 0)
    → ((i : ℕ) → (i < sum_by (claims c.nodes) (below b) + given c.nodes (suc k) b) ⊎ (sum_by (claims c.nodes) (below b) + given c.nodes (suc k) b + claims c.nodes k ≤ i) → get_or ws i 0 ≡ get_or vs i 0)
    → WalksTo c answer draws replies (suc k) p vs → WalksTo c answer draws replies k q ws
fix_walk c answer draws replies k x v b p q vs ws shaped lk e ep eq hd hi hz w =
    let nodes = c.nodes in
    let levels = length c.order in
    let T = transcript nodes levels answer draws replies in
    let child = fix_child nodes levels k x v b shaped lk e in
    mapped_walk c answer draws replies k b (λ z. z) p q vs ws lk child.0 (ap is_binary e) child.1 ep eq
    (ap (λ m. node_checks nodes levels T k m (claims_on nodes levels T k)) e)
    hi hz (λ same own. held_fix c T k x v b p q (value_in p vs) (value_in q ws) shaped lk e ep hd same own w.below) w
