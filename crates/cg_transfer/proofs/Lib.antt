mod Arriving
mod HeldAgrees
