pub mod Adding
mod Binding
pub mod BitPoints
pub mod ChildEntries
pub mod ClaimCounts
pub mod Degrees
pub mod Depends
mod DifferentNodes
pub mod Entries
mod FewNodes
pub mod FormulaCircuit
pub mod FormulaShape
mod FreeCounts
mod FreeLevels
mod FreeLists
mod FreeRoot
mod Grown
mod InnerNodes
mod InRange
mod KeptLists
mod LastNode
mod Leaves
mod LeftOut
mod LevelBits
mod LevelOf
pub mod LinearValues
mod Mapped
mod Matrix
mod NodeOrder
pub mod OfFormula
pub mod Ordered
mod Parents
mod PointCounts
pub mod Put
mod Quantified
pub mod Reduced
pub mod Shaped
mod SetTables
mod ShapedParts
mod StretchLaws
pub mod Values
