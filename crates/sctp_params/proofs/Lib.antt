pub mod ParamTypes
pub mod ParamLengths
pub mod ParamOne
pub mod ParamAgain
mod ParamExamples
