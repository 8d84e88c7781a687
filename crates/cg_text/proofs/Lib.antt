mod Digits
mod NumberLaws
mod QuotedLaws
mod QuotedChars
mod Scanning
mod TokenLaws
mod Unquoting
