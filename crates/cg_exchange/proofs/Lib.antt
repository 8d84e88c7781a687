mod ItemSteps
mod Names
