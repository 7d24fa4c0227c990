pub mod PassedWords
pub mod NamedValues
pub mod FuncSearch
pub mod KeptFunctions
pub mod LoopVariables
pub mod KnownValues
pub mod AtIterations
pub mod OneAnswer
