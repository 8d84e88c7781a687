mod Feeding
mod Found
mod Leading
mod Lines
mod RecordFields
mod Staying
