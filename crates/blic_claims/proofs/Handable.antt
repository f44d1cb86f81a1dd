-- What a node of each kind may hand down: the claims, the child's places for them and its levels are there.
use Rattle.std.proofs.Common.{arith, ℕ, ◌≡◌, ◌+◌, ◌<◌, ◌≤◌, sym, ◌∙◌, ap, subst, ◌⊎◌, length, Bool, Option, Some, None}
use Rattle.blic_model.specs.declared.node.Node.{Node}
use Rattle.blic_model.specs.declared.node.Node.TheVariants.{Not, Fix, And, Or}
use Rattle.blic_model.specs.Circuit.{OrderedCircuit, node_at}
use Rattle.blic_model.specs.Counts.{claims}
use Rattle.blic_model.specs.Shape.{IsShaped}
use Rattle.blic_model.specs.Order.{IsOrdered}
use Rattle.blic_model.proofs.Shaped.{ordered_of}
use Rattle.blic_claims.specs.Places.{Places, layout_of, first_place, second_place}
use Rattle.blic_claims.specs.Points.{PointTable, ArePointsOf}
use Rattle.blic_claims.specs.Elements.{levels_of, Covers}
use Rattle.blic_claims.specs.declared.elements.Fixed.{Fixed}
use Rattle.blic_claims.proofs.ClaimsCopied.{Asks}
use Rattle.blic_claims.proofs.FreeLevels.{same_free, fix_covers, left_covers, right_covers}
use Rattle.blic_claims.proofs.HandedPlaces.{not_room, fix_room, binary_room}
use Rattle.blic_claims.proofs.LayoutRows.{length_rows, claims_of_row, width_of_row}
use Rattle.blic_claims.proofs.SomeClaim.{some_claim_law}

-- node k, and the places of what it hands down
pub record HasPlaces (circuit : OrderedCircuit) (layout : Places) (k first second : ℕ) : Type 0 where
  pub shaped : IsShaped circuit.nodes (length circuit.order)
  pub inside : k < length circuit.nodes
  pub layout_is : layout ≡ layout_of circuit
  pub first_is : first ≡ first_place layout k
  pub second_is : second ≡ second_place layout k

pub first_of : (circuit : OrderedCircuit) (layout : Places) (k first second : ℕ) → HasPlaces circuit layout k first second → first ≡ first_place (layout_of circuit) k
first_of circuit layout k first second h = h.first_is ∙ ap (λ l. first_place l k) h.layout_is

pub second_of : (circuit : OrderedCircuit) (layout : Places) (k first second : ℕ) → HasPlaces circuit layout k first second → second ≡ second_place (layout_of circuit) k
second_of circuit layout k first second h = h.second_is ∙ ap (λ l. second_place l k) h.layout_is

pub ordered : (circuit : OrderedCircuit) (layout : Places) (k first second : ℕ) → HasPlaces circuit layout k first second → IsOrdered circuit.nodes
ordered circuit layout k first second h = ordered_of circuit.nodes (length circuit.order) h.shaped

-- a negation's claims can be copied
pub not_asks : (circuit : OrderedCircuit) (layout : Places) (k first second b : ℕ) (p : PointTable) → HasPlaces circuit layout k first second → Not b ≡ node_at circuit.nodes k
    → ArePointsOf p circuit → Asks p k b first
not_asks circuit layout k first second b p h e are =
    let o = ordered circuit layout k first second h in
    let l = h.inside in
    let room = not_room circuit k b o (sym e) l in
    let below = room.0 in
    let enough = room.1 in
    let place = first_of circuit layout k first second h in
    let own = claims_of_row circuit k l in
    let its = claims_of_row circuit b (omega arith) in
    let levels = ap length (same_free circuit.nodes (length circuit.order) k b o (sym e)) in
    let own_width = width_of_row circuit k l in
    let its_width = width_of_row circuit b (omega arith) in
    let rows : Asks (record { rows = (layout_of circuit).rows; elements = p.elements }) k b first =
    record { has_row = omega (arith, length_rows circuit); below = below; same_width = omega arith; has_room = omega arith } in
    subst (λ rs. Asks (record { rows = rs; elements = p.elements }) k b first) (sym are) rows

-- all claims can be handed down, with the level fixed
pub record AreHandable (circuit : OrderedCircuit) (k child first : ℕ) (fixed : Option Fixed) : Type 0 where
  pub is_below : child < k
  pub has_room : first + claims circuit.nodes k ≤ claims circuit.nodes child
  pub is_covered : Covers (levels_of circuit k) fixed (levels_of circuit child)

pub fix_handable : (circuit : OrderedCircuit) (layout : Places) (k first second x b : ℕ) (v : Bool) → HasPlaces circuit layout k first second → Fix x v b ≡ node_at circuit.nodes k
    → AreHandable circuit k b first (Some (record { level = x; bit = v }))
fix_handable circuit layout k first second x b v h e =
    let o = ordered circuit layout k first second h in
    let room = fix_room circuit k b x v o (sym e) h.inside in
    let enough = room.1 in
    let place = first_of circuit layout k first second h in record {
      is_below = room.0;
      has_room = omega arith;
      is_covered = fix_covers circuit.nodes (length circuit.order) k b x v o (sym e);
    }

-- a claim can be handed down to a place on a child
pub record IsHandable (circuit : OrderedCircuit) (k claim child place : ℕ) (fixed : Option Fixed) : Type 0 where
  pub has_claim : claim < claims circuit.nodes k
  pub is_below : child < k
  pub has_place : place < claims circuit.nodes child
  pub is_covered : Covers (levels_of circuit k) fixed (levels_of circuit child)

abbrev pub IsBinaryOf : Node → ℕ → ℕ → Type 0
IsBinaryOf m a b = (m ≡ And a b) ⊎ (m ≡ Or a b)

pub left_handable : (circuit : OrderedCircuit) (layout : Places) (k first second a b : ℕ) (m : Node) → HasPlaces circuit layout k first second → IsBinaryOf m a b
    → m ≡ node_at circuit.nodes k → IsHandable circuit k 0 a first None
left_handable circuit layout k first second a b m h kind e =
    let o = ordered circuit layout k first second h in
    let binary = subst (λ z. IsBinaryOf z a b) e kind in
    let room = binary_room circuit k a b o binary h.inside in
    let enough = room.2 in
    let place = first_of circuit layout k first second h in record {
      has_claim = some_claim_law circuit.nodes (length circuit.order) h.shaped k h.inside;
      is_below = room.0;
      has_place = omega arith;
      is_covered = left_covers circuit.nodes (length circuit.order) k a b o binary;
    }

pub right_handable : (circuit : OrderedCircuit) (layout : Places) (k first second a b : ℕ) (m : Node) → HasPlaces circuit layout k first second → IsBinaryOf m a b
    → m ≡ node_at circuit.nodes k → IsHandable circuit k 0 b second None
right_handable circuit layout k first second a b m h kind e =
    let o = ordered circuit layout k first second h in
    let binary = subst (λ z. IsBinaryOf z a b) e kind in
    let room = binary_room circuit k a b o binary h.inside in
    let enough = room.3 in
    let place = second_of circuit layout k first second h in record {
      has_claim = some_claim_law circuit.nodes (length circuit.order) h.shaped k h.inside;
      is_below = room.1;
      has_place = omega arith;
      is_covered = right_covers circuit.nodes (length circuit.order) k a b o binary;
    }
