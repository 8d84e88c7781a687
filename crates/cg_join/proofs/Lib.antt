mod PieceFields
mod PartLists
mod Gathering
mod Joined
mod Handed
