mod Exact
mod Parts
mod Printed
mod Rising
mod Written
