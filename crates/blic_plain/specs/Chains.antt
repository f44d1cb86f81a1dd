-- Private: the points that the recursion goes through.
use Rattle.std.specs.Prelude.{◌<◌, length}
use Rattle.blic_model.specs.Circuit.{OrderedCircuit}
use Rattle.blic_model.specs.Value.{Point, put}
use Rattle.blic_model.specs.Counts.{claims}
use Rattle.blic_claims.specs.Claims.{zero_point}
use Rattle.blic_claims.specs.Points.{ArePointsOf, stored_point}
use Rattle.blic_plain.specs.declared.chain.Chain.{Chain, Zero, Stored, With'}

-- the point that a chain stands for
abbrev pub point_of_chain : OrderedCircuit → Chain → Point
point_of_chain c Zero = zero_point
point_of_chain c (Stored points node claim) = stored_point c points.now node claim
point_of_chain c (With' level element p rest) = put (point_of_chain c rest) level element

-- what the chain starts from is the point of a claim of the circuit
abbrev pub IsChainOf : OrderedCircuit → Chain → Type 0
IsChainOf c Zero = Unit {0}
IsChainOf c (Stored points node claim) = ArePointsOf points.now c × (node < length c.nodes) × (claim < claims c.nodes node)
IsChainOf c (With' level element p rest) = IsChainOf c rest
