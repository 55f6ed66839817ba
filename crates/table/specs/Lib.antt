-- The table layer, in reading order: the table, its inputs and its grammar; the rules and the refusals; Read and Write;
-- then what the code answers and the terms as nodes; then the examples and what is proved. The laws of each file stand
-- in `proofs/`. Assumes nothing.
pub mod Table
pub mod Rows
pub mod Tokens
pub mod Parser
pub mod Grammar
pub mod Writing
pub mod First
pub mod Grow
pub mod Context
pub mod Fields
pub mod References
pub mod Width
pub mod Branches
pub mod Memory
pub mod Rules
pub mod Equations
pub mod Judge
pub mod Before
pub mod Marks
pub mod Refusals
pub mod BytesRefused
pub mod Operations
pub mod Answers
pub mod Reading
pub mod Kind
pub mod Node
pub mod Stands
pub mod Member
pub mod Examples
pub mod Bounds
pub mod Claims
